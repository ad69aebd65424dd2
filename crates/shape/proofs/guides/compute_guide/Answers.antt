use Rattle.shape.specs.Guide.{compute_guide}
use Rattle.shape.proofs.guides.compute_guide.Goals as goal

pub returns : goal.returns
unfolding compute_guide
returns c = cc
