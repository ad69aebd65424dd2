use Rattle.shape.specs.Ring.{point_on}
use Rattle.shape.proofs.section.point_on.Goals as goal

pub returns : goal.returns
unfolding point_on
returns c = cc
