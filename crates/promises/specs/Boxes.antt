-- What the theorems about boxes say, in the numbers that stand in the buffers after build: whoever has the buffers can look at each of them.
use Rattle.std.specs.Prelude.{ℕ, ◌+◌, ◌*◌, ◌<◌, ◌≤◌, true, false, ◌≡◌, get_or, Float}
use Rattle.std.specs.Float.{nan}
use Rattle.std.specs.Float.Ieee.{lt, eq, le, is_nan}
use Rattle.buffers.specs.Outs.{Outs}
use Rattle.promises.specs.Meshes.{vertices_for}

-- 'kind, first residue, residues n, first vertex, first triangle': of tube k, n and the first vertex
abbrev pub residues_of : Outs → ℕ → ℕ
residues_of o k = get_or o.tubes (5 * k + 2) 0

abbrev pub first_vertex : Outs → ℕ → ℕ
first_vertex o k = get_or o.tubes (5 * k + 3) 0

-- j is one of the 64n-54 vertices of tube k
pub record VertexOf (o : Outs) (k j : ℕ) : Type 0 where
  pub from : first_vertex o k ≤ j
  pub below : j < first_vertex o k + vertices_for (residues_of o k)

-- on axis a, which is 0 for x, 1 for y, 2 for z: the coordinate of vertex j,
abbrev pub coordinate : Outs → ℕ → ℕ → Float
coordinate o j a = get_or o.positions (3 * j + a) nan

-- and what box k has there: 'least x, y, z, then greatest x, y, z'
abbrev pub least_of : Outs → ℕ → ℕ → Float
least_of o k a = get_or o.boxes (6 * k + a) nan

abbrev pub greatest_of : Outs → ℕ → ℕ → Float
greatest_of o k a = get_or o.boxes (6 * k + 3 + a) nan

-- vertex j is not outside box k on axis a: it is neither less than the least nor more than the greatest. With a NaN on either side nothing is less or more
pub record Inside (o : Outs) (k a j : ℕ) : Type 0 where
  pub low : lt (coordinate o j a) (least_of o k a) ≡ false
  pub high : lt (greatest_of o k a) (coordinate o j a) ≡ false

-- and it is between them: from the least to the greatest. With a NaN on either side this is never so
pub record Between (o : Outs) (k a j : ℕ) : Type 0 where
  pub low : le (least_of o k a) (coordinate o j a) ≡ true
  pub high : le (coordinate o j a) (greatest_of o k a) ≡ true

-- x is the coordinate of a vertex of tube k, bit for bit, and equals that of no earlier vertex of the tube: 'the earlier of equals is kept'
pub record FirstOfEquals (o : Outs) (k a : ℕ) (x : Float) : Type 0 where
  pub at : ℕ
  pub vertex : VertexOf o k at
  pub same : coordinate o at a ≡ x
  pub earlier : (i : ℕ) → VertexOf o k i → i < at → eq (coordinate o i a) x ≡ false

-- the boxes of two tubes are apart on axis a: tube k's ends before tube m's begins
abbrev pub Apart : Outs → ℕ → Outs → ℕ → ℕ → Type 0
Apart o k p m a = lt (greatest_of o k a) (least_of p m a) ≡ true

-- x is less than y where both are numbers. Whatever they are, no comparison says that they are equal or that y is less: a comparison calls no two NaNs equal, where 01
-- counts all of them as one
pub record Below (x y : Float) : Type 0 where
  pub less : is_nan x ≡ false → is_nan y ≡ false → lt x y ≡ true
  pub unequal : eq x y ≡ false
  pub not_above : lt y x ≡ false
