use mathlib.Core.Path.{refl}
use Rattle.vectors.specs.Vec.{vscale}
use Rattle.vectors.proofs.Vec3.scale.Goals as goal

pub returns : goal.returns
unfolding vscale
returns c = refl
