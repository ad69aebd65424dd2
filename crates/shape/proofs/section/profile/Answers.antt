use Rattle.shape.specs.Ring.{profile_of}
use Rattle.shape.proofs.section.profile.Goals as goal

pub returns-then-in_arrow : goal.returns-then-in_arrow
unfolding profile_of
returns-then-in_arrow c = rw (← c.in_arrow.ensures, c.if-in_arrow.true, c.arrow.ensures, c.half_sizes-p.ensures)

pub returns : goal.returns
unfolding profile_of
returns c = rw (← c.in_arrow.ensures, c.if-in_arrow.false) c.half_sizes-p.ensures
