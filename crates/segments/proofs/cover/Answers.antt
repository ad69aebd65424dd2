use Prim.Native.Nat.{◌-◌}
use mathlib.Core.Path.{◌≡◌}
use Rattle.segments.proofs.cover.Goals.{then-t-from-ne0, else-t-from-ne0}
use native.Mathlib.Omega.{arith}
use Rattle.segments.proofs.Laws.{cover_yes, cover_no}
use Rattle.scratch.proofs.Laws.{fill_empty}
use Rattle.segments.proofs.cover.Goals as goal

pub loop-i-init : goal.loop-i-init
loop-i-init c = (omega arith, fill_empty _ _ _)

pub offset_bounds-t-from : goal.offset_bounds-t-from
offset_bounds-t-from c = omega (arith, c.loop-i.invariant.1.size, c.well_formed.0.1)

pub bounds-t-from : goal.bounds-t-from
bounds-t-from c = omega (arith, c.loop-i.invariant.1.size)

pub offset_bounds-t-base : goal.offset_bounds-t-base
offset_bounds-t-base c = omega (arith, c.loop-i.invariant.1.size, c.well_formed.0.1)

pub bounds-t-base : goal.bounds-t-base
bounds-t-base c = omega (arith, c.loop-i.invariant.1.size)

pub loop-i-preserved : goal.loop-i-preserved
loop-i-preserved c =
    let pre = c.requires in
    elim c.if-t-from-ne0.branch [
      | then-t-from-ne0 w ↦ (omega arith, rw w.t-is (cover_yes _ _ _ c.args.n _ _ c.loop-i.invariant.1 (omega arith) pre.0 pre.1 w.if-t-from-ne0.true))
      | else-t-from-ne0 w ↦ (omega arith, rw w.t-is (cover_no _ _ _ c.args.n _ _ c.loop-i.invariant.1 (omega arith) pre.0 pre.1 w.if-t-from-ne0.false))
    ]

pub shape_of-t : goal.shape_of-t
shape_of-t c = c.loop-i.invariant.1.size

pub returns : goal.returns
returns c = let q : c.loop-i.i ≡ c.args.n = omega arith in rw q at c.loop-i.invariant.1
