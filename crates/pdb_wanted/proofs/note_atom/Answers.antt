use mathlib.Core.Path.{ap}
use Rattle.pdb_file.specs.Reading.{atoms_in, names}
use Rattle.pdb_file.proofs.Laws.{no_atom}
use Rattle.pdb_wanted.proofs.Wanted.{noted_none, noted_atom}
use Rattle.pdb_wanted.proofs.note_atom.Goals as goal

pub returns-in-AnAtom : goal.returns-in-AnAtom
returns-in-AnAtom c = λ l W. noted_atom _ _ _ _ l _ _ (ap atoms_in c.in-AnAtom.is) (c.note_name.ensures (names l) W)

pub returns-in_default : goal.returns-in_default
returns-in_default c = λ l W. noted_none _ _ _ _ l _ (no_atom _ c.in_default.not-AnAtom) W
