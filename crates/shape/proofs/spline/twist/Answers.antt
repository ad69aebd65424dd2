use Rattle.shape.specs.Spline.{twist}
use Rattle.shape.proofs.spline.twist.Goals as goal

pub returns : goal.returns
unfolding twist
returns c = cc
