-- A binary STL file (02 §4) in blocks of a thousand facets, behind its head.
use Rattle.std.specs.Prelude.{ℕ, ◌+◌, ◌*◌, ◌-◌, ◌/◌, cond, List, ltb, Float, length, take, drop}
use Rattle.facets.specs.Facets.{facets_of}

-- how many facets block i of a file of t facets has: a thousand, and the last block those that are left
abbrev pub facets_in : ℕ → ℕ → ℕ
facets_in t i = cond (ltb 1000 (t - 1000 * i)) 1000 (t - 1000 * i)

-- the corners of those facets: their part of the triangle list
abbrev pub corners_in : List ℕ → ℕ → List ℕ
corners_in triangles i = take (3 * facets_in (length triangles / 3) i) (drop (3000 * i) triangles)

-- THE bytes of block i
unfoldable pub block_at : List Float → List ℕ → ℕ → List ℕ
block_at positions triangles i = facets_of positions (corners_in triangles i) (facets_in (length triangles / 3) i)

-- how many blocks a file of t facets has
abbrev pub block_count : ℕ → ℕ
block_count t = (t + 999) / 1000
