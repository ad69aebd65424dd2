use Rattle.lists.specs.Put.{upto}
use Rattle.boxes.specs.Box.{along, foremost}
use Rattle.boxes.specs.Bounds.{corner_by}
use Rattle.boxes.proofs.high_corner.Goals as goal

pub returns : goal.returns
unfolding corner_by foremost along upto
returns c = cc
