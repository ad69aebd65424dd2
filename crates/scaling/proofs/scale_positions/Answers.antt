use mathlib.Core.Path.{◌∙◌}
use native.Mathlib.Omega.{arith}
use Rattle.scaling.proofs.Laws.{scaled_turn, scaled_over}
use Rattle.scaling.proofs.scale_positions.Goals as goal

pub loop-x-preserved : goal.loop-x-preserved
loop-x-preserved c = let o = c.loop-x in scaled_turn c.args.k o.positions o.x-index (omega arith) ∙ o.invariant

pub returns : goal.returns
returns c = scaled_over c.args.k c.loop-x.positions c.loop-x.x-index (omega arith) ∙ c.loop-x.invariant
