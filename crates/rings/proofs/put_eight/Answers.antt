use mathlib.Core.Path.{◌≡◌, refl}
use Prim.Native.Nat.{◌-◌}
use native.Mathlib.Omega.{arith}
use Rattle.lists.specs.Put.{put, upto}
use Rattle.lists.proofs.Puts.{turn, kept}
use Rattle.vectors.specs.Vec.{eight}
use Rattle.rings.proofs.put_eight.Goals as goal

pub loop-k-init : goal.loop-k-init
unfolding put upto
loop-k-init c = (omega arith, refl)

pub put_vec-requires : goal.put_vec-requires
put_vec-requires c = omega (arith, kept _ _ _ c.loop-k.invariant.1)

pub loop-k-preserved : goal.loop-k-preserved
loop-k-preserved c = (omega arith, turn _ 3 (λ _. refl) _ _ _ c.loop-k.k c.put_vec.ensures c.loop-k.invariant.1 (omega arith))

pub shape_of-out : goal.shape_of-out
shape_of-out c = kept _ _ _ c.loop-k.invariant.1

pub returns : goal.returns
unfolding eight
returns c = let e : c.loop-k.k ≡ 8 = omega arith in
    rw e at c.loop-k.invariant.1
