use Prim.Native.Nat.{ℕ, ◌≤◌, ◌-◌, ◌+◌}
use mathlib.Core.Path.{◌≡◌, sym, ◌∙◌, ap}
use lib.ListN.{length}
use lib.Dec.{eqb}
use native.Mathlib.Omega.{arith}
use Rattle.lists.specs.Search.{every}
use Rattle.consistency.proofs.Laws.{between, lost_none, lost_more, corners_are_lem}
use borrow.Author.Rules.{rules}
use Rattle.consistency.proofs.corners_in.Goals as goal

pub loop-i-init : goal.loop-i-init
loop-i-init c = (omega arith, lost_none c.args.low (c.args.low + c.args.span) c.args.corners.now, omega arith)

pub overflow_add-lost : goal.overflow_add-lost
overflow_add-lost c = omega (arith, c.outside-lost.ensures.1, c.loop-i.invariant.2)

pub loop-i-preserved : goal.loop-i-preserved
loop-i-preserved c =
    let a = c.args in
    let l = c.loop-i in
    (omega arith, lost_more a.low (a.low + a.span) a.corners.now l.i l.lost l.invariant.1 ∙ ap (λ (n : ℕ). eqb (l.lost + n) 0) (sym c.outside-lost.ensures.0), omega (arith, c.outside-lost.ensures.1, l.invariant.2))

pub returns : goal.returns
returns c =
    let a = c.args in
    let l = c.loop-i in
    let e : l.i ≡ length a.corners.now = omega (arith, l.invariant.0) in
    sym l.invariant.1 ∙ rw e (corners_are_lem a.low (a.low + a.span) a.corners.now)
