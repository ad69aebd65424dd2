use mathlib.Core.Path.{◌∙◌}
use Rattle.pdb_wanted.proofs.Wanted.{bit_tells}
use Rattle.pdb_faults.proofs.AtFault.{found_not}
use Rattle.pdb_faults.proofs.Residues.has.Goals as goal

pub returns-in-Some : goal.returns-in-Some
returns-in-Some c = bit_tells _ _ _ _ _ c.args.self.now.wanted _ _ c.in-Some.ensures.0

pub returns-else-self : goal.returns-else-self
returns-else-self c = c.if-self.false ∙ found_not _ _ _ (c.args.self.now.all c.if-self.false) _ c.in-None.ensures
