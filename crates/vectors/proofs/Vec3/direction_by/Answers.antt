use Rattle.vectors.proofs.Vec3.direction_by.Goals as goal

pub returns-then-l : goal.returns-then-l
returns-then-l c = rw c.if-l.true

pub returns : goal.returns
returns c = rw (c.if-l.false, c.scale.ensures)
