use borrow.Author.Tests.{le-leb, lt-leb}
use Rattle.floats.proofs.root.is_near_one.Goals as goal

pub returns-then-b-lt1065349120 : goal.returns-then-b-lt1065349120
returns-then-b-lt1065349120 c = simp (lt-leb _ _ c.if-b-lt1065349120.true)

pub returns : goal.returns
returns c = simp (le-leb _ _ c.if-b-lt1065349120.false)
