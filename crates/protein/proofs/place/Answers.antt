use Rattle.protein.specs.Places.{coordinate_at, place_of}
use Rattle.protein.proofs.place.Goals as goal

pub returns : goal.returns
unfolding place_of coordinate_at
returns c = rw (c.narrow-x.ensures, c.narrow-y.ensures, c.narrow-z.ensures, c.u64_at.ensures, c.u64_at-2.ensures, c.u64_at-3.ensures, c.atom_at-at.ensures)
