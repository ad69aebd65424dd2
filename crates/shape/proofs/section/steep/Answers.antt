use Rattle.shape.specs.Ring.{steep}
use Rattle.shape.proofs.section.steep.Goals as goal

pub returns : goal.returns
unfolding steep
returns c = cc
