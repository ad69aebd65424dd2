use Rattle.shape.specs.Ring.{cross_section}
use Rattle.shape.proofs.section.cross_section.Goals as goal

pub returns : goal.returns
unfolding cross_section
returns c = cc
