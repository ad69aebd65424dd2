use Rattle.shape.specs.Ring.{cross_section, profile_of}
use Rattle.curve.proofs.samples.ring.Goals as goal

pub returns-then-in_arrow : goal.returns-then-in_arrow
returns-then-in_arrow c = rw (c.cross_section.ensures, c.profile.ensures, c.param_at.ensures, c.span_at-i.ensures.0)

pub returns : goal.returns
unfolding cross_section profile_of
returns c = rw (← c.span_at-i.ensures.0, ← c.in_arrow.ensures, c.if-in_arrow.false, ← c.requires.3) c.ring_over.ensures
