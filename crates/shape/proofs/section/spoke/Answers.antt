use Rattle.shape.specs.Ring.{spoke_at}
use Rattle.shape.proofs.section.spoke.Goals as goal

pub returns : goal.returns
unfolding spoke_at
returns c = rw (← c.cosine-c.ensures, ← c.sine-s.ensures) c.leaning.ensures
