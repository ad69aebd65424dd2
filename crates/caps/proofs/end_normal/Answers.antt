use Rattle.caps.specs.Caps.{chord, end_normal_by}
use Rattle.caps.proofs.end_normal.Goals as goal

pub returns-in-Some : goal.returns-in-Some
unfolding end_normal_by chord
returns-in-Some c = rw (← (rw (c.sub-chord.ensures, c.get_vec-2.ensures, c.get_vec.ensures) at c.direction.ensures), c.in-Some.is)

pub returns-in-None : goal.returns-in-None
unfolding end_normal_by chord
returns-in-None c = rw (← (rw (c.sub-chord.ensures, c.get_vec-2.ensures, c.get_vec.ensures) at c.direction.ensures), c.in-None.is)
