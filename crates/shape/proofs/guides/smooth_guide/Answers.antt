use Rattle.shape.specs.Guide.{smooth_guide}
use Rattle.shape.proofs.guides.smooth_guide.Goals as goal

pub returns-then-l : goal.returns-then-l
unfolding smooth_guide
returns-then-l c = rw (← c.weighted-sum.ensures, ← c.length-l.ensures, c.if-l.true)

pub returns : goal.returns
unfolding smooth_guide
returns c = rw (← c.weighted-sum.ensures, ← c.length-l.ensures, c.if-l.false) c.scale.ensures
