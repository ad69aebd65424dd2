use Rattle.shape.specs.Ring.{normal_on}
use Rattle.shape.proofs.section.normal_on.Goals as goal

pub returns : goal.returns
unfolding normal_on
returns c = cc
