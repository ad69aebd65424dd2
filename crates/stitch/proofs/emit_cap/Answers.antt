use mathlib.Core.Path.{◌≡◌, refl, ◌∙◌}
use native.Mathlib.Omega.{arith}
use Rattle.lists.specs.Put.{put, upto}
use Rattle.lists.proofs.Puts.{turn, kept}
use Rattle.edges.specs.Tube.{cap_side, cap}
use Rattle.edges.proofs.Stack.{cap_side_size}
use Rattle.stitch.proofs.emit_cap.Goals as goal

-- Assumes nothing.

pub loop-k-init : goal.loop-k-init
unfolding put upto
loop-k-init c = refl

pub cap_side-requires : goal.cap_side-requires
cap_side-requires c = record { at_in_bounds = omega (arith, kept _ _ _ c.loop-k.invariant); k_bound = omega arith }

pub overflow_add-place : goal.overflow_add-place
overflow_add-place c = omega (arith, kept _ _ _ c.loop-k.invariant)

pub loop-k-preserved : goal.loop-k-preserved
loop-k-preserved c = let loop = c.loop-k in
    let args = c.args in
    turn (cap_side 8 args.inward args.center args.base) 3 (cap_side_size 8 args.inward args.center args.base) _ _ _ loop.k c.cap_side.ensures loop.invariant refl

pub shape_of-triangles : goal.shape_of-triangles
shape_of-triangles c = kept _ _ _ c.loop-k.invariant

pub returns : goal.returns
unfolding cap
returns c = let e : c.loop-k.k ≡ 8 = omega arith in
    c.loop-k.invariant ∙ rw e
