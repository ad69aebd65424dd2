use Rattle.pdb_wanted.proofs.Wanted.{unknown}
use borrow.Author.Rules.{rules}
use Rattle.lists.proofs.Bools.{clash}
use Rattle.pdb_wanted.proofs.refresh.Goals as goal

pub gather-m-requires : goal.gather-m-requires
gather-m-requires c = c.forget.ensures _ c.requires.index.keys_size

pub note_atoms-requires : goal.note_atoms-requires
note_atoms-requires c = unknown _ _ _ c.gather-m.ensures

pub returns : goal.returns
returns c = (c.note_atoms.ensures, λ e. clash (c.serves.ensures e) c.if-serves.false)
