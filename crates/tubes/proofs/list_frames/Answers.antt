use Prim.Native.Nat.{◌-◌}
use mathlib.Core.Path.{◌≡◌, refl}
use Rattle.tubes.proofs.list_frames.Goals.{then-t-table-ne0, else-t-table-ne0}
use native.Mathlib.Omega.{arith}
use Rattle.tubes.specs.Lists.{marked}
use Rattle.tubes.proofs.Laws.{frames_yes, frames_no, chosen_nothing, marked_out, listed_none}
use Rattle.tubes.proofs.list_frames.Goals as goal

pub loop-k-init : goal.loop-k-init
loop-k-init c = let z = chosen_nothing (marked c.args.t.now c.args.table c.args.first) c.args.first (λ k l. marked_out c.args.t.now c.args.table c.args.first k l) in
    (omega arith, (omega arith, (omega arith, rw z (refl, listed_none _ _ _))))

pub offset_bounds-t-table : goal.offset_bounds-t-table
offset_bounds-t-table c = omega (arith, c.loop-k.invariant.1.1.1.1.size, c.well_formed.0.1)

pub bounds-t-table : goal.bounds-t-table
bounds-t-table c = omega (arith, c.loop-k.invariant.1.1.1.1.size)

pub offset_bounds-t-at : goal.offset_bounds-t-at
offset_bounds-t-at c = omega (arith, c.loop-k.invariant.1.1.1.1.size, c.well_formed.0.1)

pub bounds-t-at : goal.bounds-t-at
bounds-t-at c = omega (arith, c.loop-k.invariant.1.1.1.1.size)

pub loop-k-preserved : goal.loop-k-preserved
loop-k-preserved c =
    let inv = c.loop-k.invariant in
    let i = inv.1.1 in
    elim c.if-t-table-ne0.branch [
      | then-t-table-ne0 w ↦ let h = frames_yes _ _ _ _ _ _ _ _ i.1.1 i.1.0 inv.0 (omega arith) (omega arith) (omega arith) (omega arith) w.if-t-table-ne0.true in (omega arith, (omega arith, (omega (arith, w.m-is), rw (w.t-is, w.m-is) h)))
      | else-t-table-ne0 w ↦ let h = frames_no _ _ _ _ _ _ _ _ i.1.1 i.1.0 inv.0 (omega arith) (omega arith) (omega arith) (omega arith) w.if-t-table-ne0.false in (omega arith, (omega arith, (omega (arith, w.m-is), rw (w.t-is, w.m-is) h)))
    ]

pub shape_of-t : goal.shape_of-t
shape_of-t c = c.loop-k.invariant.1.1.1.1.size

pub returns : goal.returns
returns c = let q : c.loop-k.k ≡ c.args.end = omega arith in rw q at c.loop-k.invariant.1.1.1
