use mathlib.Core.Path.{◌≡◌, refl}
use Prim.Native.Nat.{◌-◌}
use native.Mathlib.Omega.{arith}
use Rattle.lists.specs.Put.{upto}
use Rattle.vectors.specs.Vec.{eight}
use Rattle.boxes.proofs.Laws.{grown_none, grown_turn}
use Rattle.boxes.proofs.over_eight.Goals as goal

pub loop-k-init : goal.loop-k-init
unfolding upto
loop-k-init c = (grown_none c.args.b, omega arith)

pub loop-k-preserved : goal.loop-k-preserved
loop-k-preserved c =
    let loop = c.loop-k in
    (grown_turn _ 1 (λ _. refl) _ loop.k c.grown-bounds.ensures loop.invariant.0, omega arith)

pub returns : goal.returns
unfolding eight
returns c = let e : c.loop-k.k ≡ 8 = omega arith in
    rw e at c.loop-k.invariant.0
