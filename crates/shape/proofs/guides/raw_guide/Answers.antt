use Rattle.shape.specs.Guide.{raw_guide}
use Rattle.shape.proofs.guides.raw_guide.Goals as goal

pub returns-in-At : goal.returns-in-At
unfolding raw_guide
returns-in-At c = rw c.in-At.is c.compute_guide.ensures

pub returns-in-Missing : goal.returns-in-Missing
unfolding raw_guide
returns-in-Missing c = rw c.in-Missing.is c.fallback_perp.ensures
