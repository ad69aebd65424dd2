use borrow.Author.Tests.{lt-ltb, le-ltb}
use Rattle.curve.specs.Samples.{param_at}
use Rattle.curve.proofs.samples.param_at.Goals as goal

pub returns-then-s-n : goal.returns-then-s-n
unfolding param_at
returns-then-s-n c = rw (lt-ltb _ _ c.if-s-n.true)

pub returns : goal.returns
unfolding param_at
returns c = rw (le-ltb _ _ c.if-s-n.false)
