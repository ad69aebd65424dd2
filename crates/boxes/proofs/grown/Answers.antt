use Rattle.boxes.specs.Bounds.{grown_by}
use Rattle.boxes.proofs.grown.Goals as goal

pub returns : goal.returns
unfolding grown_by
returns c = cc
