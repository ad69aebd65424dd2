use Rattle.pdb_wanted.proofs.Wanted.{noted_there, noted_not}
use Rattle.pdb_wanted.proofs.note_name.Goals as goal

pub returns-in-Some : goal.returns-in-Some
returns-in-Some c = λ l W. noted_there _ _ _ _ l W _ _ c.in-Some.ensures.0 c.in-Some.ensures.1

pub returns-in_default : goal.returns-in_default
returns-in_default c = λ l W. noted_not _ _ _ _ l W _ c.in_default.ensures
