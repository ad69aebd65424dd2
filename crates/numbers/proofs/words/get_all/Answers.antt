use Rattle.std.proofs.Common.{arith, refl, ℕ, ◌+◌, ◌*◌}
use Rattle.lists.specs.Put.{put, upto}
use Rattle.lists.proofs.Puts.{kept, set_turn}
use Rattle.numbers.proofs.words.get_all.Goals as goal

pub loop-i-init : goal.loop-i-init
unfolding put upto
loop-i-init g c = (omega arith, refl)

pub loop-i-preserved : goal.loop-i-preserved
loop-i-preserved g c =
    let t = g.T.Wire in
    let a = c.args in
    (omega (arith, kept _ _ _ c.loop-i.invariant.1), set_turn (λ (k : ℕ). t.read a.b.now (a.at + k * t.SIZE)) _ 0 _ _ c.loop-i.invariant.1 (rw c.SIZE.ensures at c.get.ensures) (omega arith))
