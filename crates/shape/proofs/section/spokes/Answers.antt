use mathlib.Core.Path.{◌≡◌, refl}
use Prim.Native.Nat.{◌-◌}
use native.Mathlib.Omega.{arith}
use Rattle.lists.specs.Put.{put, upto}
use Rattle.lists.proofs.Puts.{set_turn}
use Rattle.shape.specs.Ring.{spokes_of}
use Rattle.shape.proofs.section.spokes.Goals as goal

pub loop-k-init : goal.loop-k-init
unfolding put upto
loop-k-init c = (omega arith, refl)

pub loop-k-preserved : goal.loop-k-preserved
loop-k-preserved c = let k = c.loop-k.k in
    (omega arith, set_turn _ _ 0 k k c.loop-k.invariant.1 c.spoke.ensures (omega arith))

pub returns : goal.returns
unfolding spokes_of put upto
returns c = let e : c.loop-k.k ≡ 8 = omega arith in
    rw (c.loop-k.invariant.1, e)
