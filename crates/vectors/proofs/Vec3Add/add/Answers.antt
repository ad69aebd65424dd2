use mathlib.Core.Path.{refl}
use Rattle.vectors.specs.Vec.{vadd}
use Rattle.vectors.proofs.Vec3Add.add.Goals as goal

pub returns : goal.returns
unfolding vadd
returns c = refl
