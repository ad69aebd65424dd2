use mathlib.Core.Path.{sym, ◌∙◌}
use Prim.Native.Nat.{◌-◌}
use native.Mathlib.Omega.{arith}
use Rattle.smooth.specs.Pass.{position_pass, smooth_positions}
use Rattle.smooth.proofs.Laws.{length_positions, passed_none, passed_more, passed_all}
use Rattle.smooth.proofs.positions.smooth_positions.Goals as goal

pub loop-k-init : goal.loop-k-init
loop-k-init c = (omega arith, passed_none _ _ _ c.requires.whole)

pub position_pass-requires : goal.position_pass-requires
position_pass-requires c = (omega (arith, c.requires.two), c.loop-k.invariant.1.long)

pub loop-k-preserved : goal.loop-k-preserved
loop-k-preserved c = (omega arith, passed_more (length_positions _) c.loop-k.invariant.1 c.position_pass.ensures)

pub shape_of-list : goal.shape_of-list
shape_of-list c = c.loop-k.invariant.1.long ∙ sym c.requires.whole

pub returns : goal.returns
unfolding smooth_positions
returns c = passed_all _ c.loop-k.invariant.1 (omega arith)
