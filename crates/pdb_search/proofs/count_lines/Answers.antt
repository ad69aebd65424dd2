use Prim.Native.Nat.{◌-◌}
use lib.ListN.{length}
use native.Mathlib.Omega.{arith}
use borrow.Author.Rules.{rules}
use Rattle.pdb_search.proofs.Laws.{Counting, counting_start, counting_over, counting_more}
use Rattle.pdb_search.proofs.count_lines.Goals as goal

pub loop-p-init : goal.loop-p-init
loop-p-init c = counting_start _ _

pub next_line-requires : goal.next_line-requires
next_line-requires c = c.loop-p.invariant.inside

pub returns-in_default : goal.returns-in_default
returns-in_default c = counting_over _ _ _ _ _ c.loop-p.invariant c.in_default.ensures

pub overflow_add-n : goal.overflow_add-n
overflow_add-n c = let o = c.in-Some.ensures in omega (arith, c.loop-p.invariant.slow, o.more, o.within)

pub loop-p-smaller : goal.loop-p-smaller
loop-p-smaller c = let o = c.in-Some.ensures in omega (arith, o.more, o.within)

pub loop-p-preserved : goal.loop-p-preserved
loop-p-preserved c = counting_more _ _ _ _ _ c.loop-p.invariant _ c.in-Some.ensures
