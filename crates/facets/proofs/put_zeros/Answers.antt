use native.Mathlib.Omega.{arith}
use lib.ListN.{length-set}
use Rattle.lists.proofs.Puts.{put2}
use borrow.Author.Rules.{rules}
use Rattle.facets.proofs.put_zeros.Goals as goal

pub bounds-out-at-2 : goal.bounds-out-at-2
bounds-out-at-2 c = simp length-set (omega arith)

pub returns : goal.returns
returns c = put2 _ _ _ _
