use mathlib.Core.Path.{refl}
use Rattle.vectors.specs.Vec.{vdot}
use Rattle.vectors.proofs.Vec3.dot.Goals as goal

pub returns : goal.returns
unfolding vdot
returns c = refl
