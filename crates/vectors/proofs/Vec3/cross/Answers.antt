use mathlib.Core.Path.{refl}
use Rattle.vectors.specs.Vec.{vcross}
use Rattle.vectors.proofs.Vec3.cross.Goals as goal

pub returns : goal.returns
unfolding vcross
returns c = refl
