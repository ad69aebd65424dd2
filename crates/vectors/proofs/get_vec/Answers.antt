use mathlib.Core.Path.{refl}
use Rattle.vectors.specs.Vec.{vec_at}
use Rattle.vectors.proofs.get_vec.Goals as goal

pub returns : goal.returns
unfolding vec_at
returns c = refl
