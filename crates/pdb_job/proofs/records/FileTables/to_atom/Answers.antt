use mathlib.Core.Path.{refl}
use Rattle.pdb_job.proofs.Writing.{found_some, found_at, atom_made}
use borrow.Author.Rules.{rules}
use Rattle.pdb_job.proofs.records.FileTables.to_atom.Goals as goal

pub unwrap-residue-requires : goal.unwrap-residue-requires
unwrap-residue-requires c = found_some _ _ _ _ c.find.ensures c.requires.0

pub returns : goal.returns
returns c = let t = c.args.self.now in atom_made _ _ _ _ c.args.x t.residues.keyed t.chains (search rules) _ _ (found_at _ _ _ _ _ c.find.ensures c.unwrap-residue.ensures) refl c.requires.1
