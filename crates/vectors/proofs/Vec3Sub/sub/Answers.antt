use mathlib.Core.Path.{refl}
use Rattle.vectors.specs.Vec.{vsub}
use Rattle.vectors.proofs.Vec3Sub.sub.Goals as goal

pub returns : goal.returns
unfolding vsub
returns c = refl
