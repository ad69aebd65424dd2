use Rattle.shape.specs.Guide.{tangent_of}
use Rattle.shape.proofs.guides.tangent_of.Goals as goal

pub returns : goal.returns
unfolding tangent_of
returns c = cc
