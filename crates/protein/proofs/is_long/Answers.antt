use Rattle.protein.specs.Places.{far}
use Rattle.protein.proofs.is_long.Goals as goal

pub returns : goal.returns
unfolding far
returns c = cc
