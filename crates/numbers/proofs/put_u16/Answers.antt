use native.Mathlib.Omega.{arith}
use lib.ListN.{length-set}
use Rattle.numbers.specs.Bytes.{u16}
use Rattle.lists.proofs.Puts.{put2}
use Rattle.numbers.proofs.put_u16.Goals as goal

pub bounds-out-at-2 : goal.bounds-out-at-2
bounds-out-at-2 c = simp length-set (omega arith)

pub returns : goal.returns
unfolding u16
returns c = put2 _ _ _ _
