use Rattle.shape.specs.Guide.{or_up}
use Rattle.shape.proofs.guides.or_up.Goals as goal

pub returns-then-length : goal.returns-then-length
unfolding or_up
returns-then-length c = rw (← c.length.ensures, c.if-length.true)

pub returns : goal.returns
unfolding or_up
returns c = rw (← c.length.ensures, c.if-length.false)
