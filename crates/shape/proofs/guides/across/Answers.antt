use Rattle.shape.specs.Guide.{across}
use Rattle.shape.proofs.guides.across.Goals as goal

pub returns : goal.returns
unfolding across
returns c = cc
