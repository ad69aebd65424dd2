use mathlib.Core.Path.{◌≡◌, refl, ◌∙◌}
use Prim.Native.Nat.{◌+◌, ◌*◌}
use native.Mathlib.Omega.{arith}
use Rattle.lists.specs.Put.{put, upto}
use Rattle.lists.proofs.Puts.{next, turn, kept}
use Rattle.edges.specs.Tube.{band_side, band}
use Rattle.edges.specs.Tube as tube
use Rattle.stitch.proofs.append_ring_and_stitch.Goals as goal

-- Assumes nothing.

pub loop-k-init : goal.loop-k-init
unfolding put upto
loop-k-init c = refl

pub overflow_add-k1 : goal.overflow_add-k1
overflow_add-k1 c = omega arith

pub overflow_add-a0 : goal.overflow_add-a0
overflow_add-a0 c = omega arith

pub overflow_add-a1 : goal.overflow_add-a1
overflow_add-a1 c = omega arith

pub overflow_add-b0 : goal.overflow_add-b0
overflow_add-b0 c = omega arith

pub overflow_add-b1 : goal.overflow_add-b1
overflow_add-b1 c = omega arith

pub put_corners-requires : goal.put_corners-requires
put_corners-requires c = omega (arith, kept _ _ _ c.loop-k.invariant)

pub overflow_add-place : goal.overflow_add-place
overflow_add-place c = omega (arith, kept _ _ _ c.loop-k.invariant)

pub put_corners-requires-in-loop-k : goal.put_corners-requires-in-loop-k
put_corners-requires-in-loop-k c = omega (arith, kept _ _ _ c.put_corners.ensures, kept _ _ _ c.loop-k.invariant)

pub loop-k-preserved : goal.loop-k-preserved
unfolding tube.next
loop-k-preserved c = let loop = c.loop-k in
    let args = c.args in
    let side = next _ _ (args.at + loop.k * 6) _ _ _ c.put_corners-in-loop-k.ensures c.put_corners.ensures refl in
    turn (band_side 8 args.a args.b) 6 (λ k. refl) _ _ _ loop.k side loop.invariant refl

pub shape_of-triangles : goal.shape_of-triangles
shape_of-triangles c = kept _ _ _ c.loop-k.invariant

pub returns : goal.returns
unfolding band
returns c = let e : c.loop-k.k ≡ 8 = omega arith in
    c.loop-k.invariant ∙ rw e
