use mathlib.Core.Path.{◌∙◌}
use Rattle.mesh.specs.Mesh.{spot_of}
use Rattle.mesh.proofs.Laws.{spot_some}
use Rattle.mesh.proofs.spot.Goals as goal

pub returns-then-a-eq0 : goal.returns-then-a-eq0
unfolding spot_of
returns-then-a-eq0 c = rw c.if-a-eq0.true

pub returns : goal.returns
returns c = c.place.ensures ∙ spot_some _ _ c.if-a-eq0.false
