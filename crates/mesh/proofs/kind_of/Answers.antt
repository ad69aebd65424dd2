use Rattle.mesh.specs.Mesh.{kind_of}
use Rattle.mesh.proofs.Laws.{kind_sheet}
use Rattle.mesh.proofs.kind_of.Goals as goal

pub returns-then-kind-eq0 : goal.returns-then-kind-eq0
unfolding kind_of
returns-then-kind-eq0 c = rw c.if-kind-eq0.true

pub returns-then-kind-eq1 : goal.returns-then-kind-eq1
unfolding kind_of
returns-then-kind-eq1 c = rw c.if-kind-eq1.true

pub returns : goal.returns
returns c = kind_sheet _ c.if-kind-eq0.false c.if-kind-eq1.false
