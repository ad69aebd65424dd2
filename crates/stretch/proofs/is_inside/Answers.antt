use borrow.Author.Tests.{le-leb, lt-leb}
use Rattle.stretch.specs.Stretch.{inside}
use Rattle.stretch.proofs.is_inside.Goals as goal

pub returns-then-v-g : goal.returns-then-v-g
unfolding inside
returns-then-v-g c = simp (lt-leb _ _ c.if-v-g.true)

pub returns : goal.returns
unfolding inside
returns c = simp (le-leb _ _ c.if-v-g.false)
