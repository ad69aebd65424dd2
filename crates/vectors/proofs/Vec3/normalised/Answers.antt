use Rattle.vectors.specs.Vec.{normalised}
use Rattle.vectors.proofs.Vec3.normalised.Goals as goal

pub returns : goal.returns
unfolding normalised
returns c = rw (← c.length.ensures) c.normalised_by.ensures
