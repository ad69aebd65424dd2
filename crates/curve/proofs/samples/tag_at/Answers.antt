use native.Mathlib.Omega.{arith}
use Rattle.curve.specs.Samples.{tag_at}
use Rattle.curve.proofs.samples.tag_at.Goals as goal

pub returns-then-param_at : goal.returns-then-param_at
unfolding tag_at
returns-then-param_at c = rw (← c.param_at.ensures, ← c.span_at-i.ensures.0, c.if-param_at.true)

pub returns : goal.returns
unfolding tag_at
returns c = rw (← c.param_at.ensures, ← c.span_at-i.ensures.0, c.if-param_at.false) (omega arith)
