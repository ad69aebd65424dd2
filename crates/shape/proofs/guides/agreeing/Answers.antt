use Rattle.shape.specs.Guide.{agreeing}
use Rattle.shape.proofs.guides.agreeing.Goals as goal

pub returns-then-dot : goal.returns-then-dot
unfolding agreeing
returns-then-dot c = rw (← c.dot.ensures, c.if-dot.true) c.scale.ensures

pub returns : goal.returns
unfolding agreeing
returns c = rw (← c.dot.ensures, c.if-dot.false)
