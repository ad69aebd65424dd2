use Rattle.vectors.specs.Vec.{direction_of}
use Rattle.vectors.proofs.Vec3.direction.Goals as goal

pub returns : goal.returns
unfolding direction_of
returns c = rw (← c.length.ensures) c.direction_by.ensures
