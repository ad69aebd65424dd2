use Rattle.std.proofs.Common.{arith, refl, ◌∙◌, length}
use Rattle.lists.specs.Put.{put, upto}
use Rattle.lists.proofs.Puts.{kept, set_turn}
use Rattle.stream.proofs.patterns.fill.Goals as goal

pub loop-i-init : goal.loop-i-init
unfolding put upto
loop-i-init g c = (omega arith, refl)

pub loop-i-preserved : goal.loop-i-preserved
loop-i-preserved g c =
    let at = c.at.ensures in
    (omega (arith, kept _ _ _ c.loop-i.invariant.1), set_turn g.T.Pattern.pattern _ 0 _ _ c.loop-i.invariant.1 at (omega arith))
