use native.Mathlib.Omega.{arith}
use lib.ListN.{length-set}
use Rattle.lists.proofs.Puts.{put5}
use Rattle.mesh.proofs.put_five.Goals as goal

pub bounds-tubes-at-2 : goal.bounds-tubes-at-2
bounds-tubes-at-2 c = simp length-set (omega arith)

pub bounds-tubes-at-3 : goal.bounds-tubes-at-3
bounds-tubes-at-3 c = simp length-set (omega arith)

pub bounds-tubes-at-4 : goal.bounds-tubes-at-4
bounds-tubes-at-4 c = simp length-set (omega arith)

pub bounds-tubes-at-5 : goal.bounds-tubes-at-5
bounds-tubes-at-5 c = simp length-set (omega arith)

pub returns : goal.returns
returns c = put5 _ _ _ _ _ _ _
