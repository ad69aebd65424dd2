use Rattle.shape.specs.Guide.{smooth_position}
use Rattle.shape.proofs.guides.smooth_position.Goals as goal

pub returns : goal.returns
unfolding smooth_position
returns c = cc
