use Rattle.shape.specs.Spline.{bend}
use Rattle.shape.proofs.spline.bend.Goals as goal

pub returns : goal.returns
unfolding bend
returns c = cc
