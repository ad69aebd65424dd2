use borrow.Author.Tests.{lt-ltb, le-ltb}
use Rattle.curve.specs.Samples.{span_at}
use borrow.Author.Rules.{rules}
use Rattle.curve.proofs.samples.span_at.Goals as goal

pub returns-then-s-n : goal.returns-then-s-n
unfolding span_at
returns-then-s-n c = (rw (lt-ltb _ _ c.if-s-n.true), search rules)

pub returns : goal.returns
unfolding span_at
returns c = (rw (le-ltb _ _ c.if-s-n.false), search rules)
