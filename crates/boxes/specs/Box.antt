-- The box of a tube. 01: 'A box is the least and greatest C-alpha coordinate on each axis over the tube's frames; the earlier of equals is kept.'
-- 02 §2: 'A box now takes the vertices of its tube, caps included, where document 01 takes C-alphas; all else about it stays.' So it is of a flat
-- list of vertices, three floats each.
use Rattle.std.specs.Prelude.{Bool, cond, List, [], ◌∷◌, ℕ, ◌+◌, ◌*◌, ◌/◌, length, get_or, Float}
use Rattle.std.specs.Float.{nan}
use Rattle.std.specs.Float.Ieee.{lt}
use Rattle.lists.specs.Put.{upto}

-- 'coordinate on each axis': float a of each vertex of a flat list, where a is 0 for x, 1 for y, 2 for z
unfoldable pub along : ℕ → List Float → List Float
along a l = upto (λ (k : ℕ). get_or l (3 * k + a) nan ∷ []) (length l / 3)

-- 'the earlier of equals is kept': x is kept, and of the floats of l, one after the other, each that is before what is kept takes its place. An equal
-- one does not; and a NaN is before nothing, and nothing is before it
unfoldable pub foremost : (Float → Float → Bool) → Float → List Float → Float
foremost before x [] = x
foremost before x (y ∷ l) = foremost before (cond (before y x) y x) l

-- of a list; of an empty one, which no tube has, a NaN
unfoldable pub foremost_of : (Float → Float → Bool) → List Float → Float
foremost_of before [] = nan
foremost_of before (x ∷ l) = foremost before x l

-- a is more than b
abbrev pub more : Float → Float → Bool
more a b = lt b a

-- 'least and greatest'
abbrev pub least : List Float → Float
least l = foremost_of lt l

abbrev pub greatest : List Float → Float
greatest l = foremost_of more l

-- 'Its six floats are least x, y, z, then greatest x, y, z'
unfoldable pub box_of : List Float → List Float
box_of l = least (along 0 l) ∷ least (along 1 l) ∷ least (along 2 l) ∷ greatest (along 0 l) ∷ greatest (along 1 l) ∷ greatest (along 2 l) ∷ []
