use mathlib.Core.Path.{◌∙◌}
use Rattle.edges.specs.Tube.{next}
use Rattle.stitch.proofs.cap_side.Goals as goal

-- Assumes nothing.

pub returns-then-inward : goal.returns-then-inward
unfolding next
returns-then-inward c = c.put_corners.ensures ∙ rw c.if-inward.true

pub returns : goal.returns
unfolding next
returns c = c.put_corners-2.ensures ∙ rw c.if-inward.false
