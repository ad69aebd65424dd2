use Rattle.shape.specs.Ring.{arrow}
use Rattle.shape.proofs.section.arrow.Goals as goal

pub returns : goal.returns
unfolding arrow
returns c = cc
