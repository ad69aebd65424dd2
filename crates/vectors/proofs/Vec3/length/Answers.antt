use Rattle.vectors.specs.Vec.{vlength}
use Rattle.vectors.proofs.Vec3.length.Goals as goal

pub returns : goal.returns
unfolding vlength
returns c = cc
