use Rattle.shape.specs.Guide.{weighted}
use Rattle.shape.proofs.guides.weighted.Goals as goal

pub returns : goal.returns
unfolding weighted
returns c = cc
