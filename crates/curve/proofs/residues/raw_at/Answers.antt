use mathlib.Core.Path.{sym}
use native.Mathlib.Omega.{arith}
use lib.ListN.{length-take, length-drop}
use lib.Seq.{length-take-le}
use Rattle.lists.proofs.Any.{rest}
use Rattle.curve.proofs.residues.raw_at.Goals as goal

pub slice_bounds-raw_of-end : goal.slice_bounds-raw_of-end
slice_bounds-raw_of-end c = sym (length-take-le _ _ (omega arith))

pub raw_of-requires : goal.raw_of-requires
raw_of-requires c = (omega arith, simp length-take (omega arith), omega arith, simp (rest, length-drop) (omega arith))

pub returns : goal.returns
returns c = rw rest at c.raw_of.ensures
