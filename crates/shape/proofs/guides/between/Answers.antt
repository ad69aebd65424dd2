use Rattle.shape.specs.Guide.{between}
use Rattle.shape.proofs.guides.between.Goals as goal

pub returns : goal.returns
unfolding between
returns c = cc
