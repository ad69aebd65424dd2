-- What the writers of vertices hand on: the two corners of a box so far. A promise between functions; what a box is stands in specs/Box.
use Rattle.std.specs.Prelude.{Bool, List, Float}
use Rattle.std.specs.Float.Ieee.{lt}
use Rattle.vectors.specs.declared.Vec3.{Vec3}
use Rattle.vectors.specs.Vec.{vec, vec_at}
use Rattle.boxes.specs.declared.Bounds.{Bounds}
use Rattle.boxes.specs.Box.{along, foremost, more}

-- a corner v, taken further over the vertices of a flat list
unfoldable pub corner_by : (Float → Float → Bool) → Vec3 → List Float → Vec3
corner_by before v l = vec (foremost before v.x (along 0 l)) (foremost before v.y (along 1 l)) (foremost before v.z (along 2 l))

-- both corners, the low one by 'less' and the high one by 'more'
unfoldable pub grown_by : Bounds → List Float → Bounds
grown_by b l = record { low = corner_by lt b.low l; high = corner_by more b.high l }

-- the box of one vertex
abbrev pub single : Vec3 → Bounds
single v = record { low = v; high = v }

-- the box of a flat list, from its first vertex on
abbrev pub bounds_of : List Float → Bounds
bounds_of l = grown_by (single (vec_at l 0)) l
