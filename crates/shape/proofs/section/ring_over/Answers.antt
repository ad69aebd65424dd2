use mathlib.Core.Path.{◌≡◌, refl}
use Prim.Native.Nat.{◌-◌}
use native.Mathlib.Omega.{arith}
use Rattle.lists.specs.Put.{put, upto}
use Rattle.lists.proofs.Puts.{set_turn}
use Rattle.shape.specs.Ring.{point_on, normal_on, ring_over}
use Rattle.shape.proofs.section.ring_over.Goals as goal

pub loop-k-init : goal.loop-k-init
unfolding put upto
loop-k-init c = (omega arith, refl, refl)

pub loop-k-preserved : goal.loop-k-preserved
loop-k-preserved c = let i = c.loop-k.invariant in
    let k = c.loop-k.k in
    (omega arith, set_turn _ _ 0 k k i.1 c.point_on.ensures (omega arith), set_turn _ _ 0 k k i.2 c.normal_on.ensures (omega arith))

pub returns : goal.returns
unfolding ring_over put upto
returns c = let e : c.loop-k.k ≡ 8 = omega arith in
    rw (c.loop-k.invariant.1, c.loop-k.invariant.2, e)
