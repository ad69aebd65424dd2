use Rattle.shape.proofs.guides.helper.Goals as goal

pub returns-then-magnitude_of : goal.returns-then-magnitude_of
returns-then-magnitude_of c = rw (← c.magnitude_of.ensures, c.if-magnitude_of.true)

pub returns : goal.returns
returns c = rw (← c.magnitude_of.ensures, c.if-magnitude_of.false)
