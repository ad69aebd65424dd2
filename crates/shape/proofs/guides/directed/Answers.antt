use Rattle.vectors.specs.Vec.{normalised}
use Rattle.shape.specs.Guide.{directed}
use Rattle.shape.proofs.guides.directed.Goals as goal

pub returns-then-l : goal.returns-then-l
unfolding directed
returns-then-l c = rw (← c.length-l.ensures, c.if-l.true)

pub returns : goal.returns
unfolding directed normalised
returns c = rw (← c.length-l.ensures, c.if-l.false) c.normalised_by.ensures
