-- The six lent output buffers of a mesh, how contracts name them, and when they have room.
use Rattle.std.specs.Prelude.{ℕ, ◌*◌, ◌≤◌, List, Bool, ◌||◌, length, ltb, Float}
use Rattle.std.specs.Borrow.{MutBor}
use denote.Triple.Both.{Both}
use Rattle.buffers.specs.declared.Counts.{Counts}

-- 01, 'Lent buffers', in its order
pub record Outs : Type 0 where
  pub positions : List Float
  pub normals : List Float
  pub tags : List ℕ
  pub triangles : List ℕ
  pub tubes : List ℕ
  pub boxes : List Float

abbrev pub outs : List Float → List Float → List ℕ → List ℕ → List ℕ → List Float → Outs
outs p n g t r b = record { positions = p; normals = n; tags = g; triangles = t; tubes = r; boxes = b }

-- ---- lent slices, as contracts name them

-- what six lent slices hold where a function begins: for a `requires`
abbrev pub lends : MutBor (List Float) → MutBor (List Float) → MutBor (List ℕ) → MutBor (List ℕ) → MutBor (List ℕ) → MutBor (List Float) → Outs
lends p n g t r b = outs p.now n.now g.now t.now r.now b.now

-- a lent slice as an `ensures` sees it: `entry` where the function begins, `exit` where it returns
abbrev pub Slice : Type 0 → Type 0
Slice A = Both (MutBor (List A)) (MutBor (List A))

-- what six of them held, and what they hold then
abbrev pub held : Slice Float → Slice Float → Slice ℕ → Slice ℕ → Slice ℕ → Slice Float → Outs
held p n g t r b = lends p.entry n.entry g.entry t.entry r.entry b.entry

abbrev pub holds : Slice Float → Slice Float → Slice ℕ → Slice ℕ → Slice ℕ → Slice Float → Outs
holds p n g t r b = lends p.exit n.exit g.exit t.exit r.exit b.exit

-- 'positions 3V f32, normals 3V f32, tags V u32, triangles 3T u32, tubes 5K u32 .., boxes 6K f32': room for K tubes, V vertices and T triangles
pub record Room (k v t : ℕ) (o : Outs) : Type 0 where
  pub positions : 3 * v ≤ length o.positions
  pub normals : 3 * v ≤ length o.normals
  pub tags : v ≤ length o.tags
  pub triangles : 3 * t ≤ length o.triangles
  pub tubes : 5 * k ≤ length o.tubes
  pub boxes : 6 * k ≤ length o.boxes

-- 'V is at most 1,048,576' (01, 'Lent buffers'): the limit of check 10, and of 02 §4
abbrev pub most_vertices : ℕ
most_vertices = 1048576

-- how many places each has; no refusal for room depends on more of a buffer than that
pub record Sizes : Type 0 where
  pub positions : ℕ
  pub normals : ℕ
  pub tags : ℕ
  pub triangles : ℕ
  pub tubes : ℕ
  pub boxes : ℕ

abbrev pub sizes : ℕ → ℕ → ℕ → ℕ → ℕ → ℕ → Sizes
sizes p n g t r b = record { positions = p; normals = n; tags = g; triangles = t; tubes = r; boxes = b }

abbrev pub sizes_of : Outs → Sizes
sizes_of o = sizes (length o.positions) (length o.normals) (length o.tags) (length o.triangles) (length o.tubes) (length o.boxes)

-- some buffer has no room for it: 01's 11, 'an output buffer too short', and 02 §4's 'room for K, V and T'. `roomy` of proofs/Laws: where none is too short there is `Room`
unfoldable pub tight : Counts → Sizes → Bool
tight c s =
    ltb s.positions (3 * c.vertices)
    || (ltb s.normals (3 * c.vertices)
    || (ltb s.tags c.vertices
    || (ltb s.triangles (3 * c.triangles)
    || (ltb s.tubes (5 * c.tubes)
    || ltb s.boxes (6 * c.tubes)))))
