-- What a sound triangle list is: the four rules of 02 §11, in its order. A triangle list is the flat list of corners that a program writes:
-- triangle t has the corners at 3t, 3t + 1 and 3t + 2. Definitions only; what holds of them is in proofs/Theorems.
use Rattle.std.specs.Prelude.{◌≡◌, ◌≢◌, List, [], ◌∷◌, ◌&&◌, cond, ℕ, ◌+◌, ◌*◌, ◌≤◌, ◌<◌, eqb, length, get_or}

-- ---- directed edges

-- a directed edge goes from one vertex to another
abbrev pub Edge : Type 0
Edge = ℕ × ℕ

-- the directed edges of a triangle (a, b, c) are a to b, b to c and c to a: edge i of a list starts at corner i
abbrev pub edges : List ℕ → List Edge
edges [] = []
edges (a ∷ []) = []
edges (a ∷ b ∷ []) = []
edges (a ∷ b ∷ c ∷ l) = (a, b) ∷ (b, c) ∷ (c, a) ∷ edges l

-- 1 where the edge goes from x to y, else 0
abbrev pub is : ℕ → ℕ → Edge → ℕ
is x y e = cond (eqb x e.0 && eqb y e.1) 1 0

-- how many of the edges go from x to y
abbrev pub count : ℕ → ℕ → List Edge → ℕ
count x y [] = 0
count x y (e ∷ es) = is x y e + count x y es

-- how often the directed edge from x to y occurs in a triangle list
unfoldable pub occurs : ℕ → ℕ → List ℕ → ℕ
occurs x y l = count x y (edges l)

-- ---- the four rules. Vertices are numbered from o up to v, v not among them: §11's from 0, a tube's from its first vertex

-- 'every corner is below V'
abbrev pub CornersIn : ℕ → ℕ → List ℕ → Type 0
CornersIn o v l = (i : ℕ) → i < length l → (o ≤ get_or l i 0) × (get_or l i 0 < v)

-- P of the three corners of each triangle
abbrev pub EachTriangle : (ℕ → ℕ → ℕ → Type 0) → List ℕ → Type 0
EachTriangle P l = (t : ℕ) → 3 * t + 2 < length l → P (get_or l (3 * t) 0) (get_or l (3 * t + 1) 0) (get_or l (3 * t + 2) 0)

-- 'corners of a triangle differ'
abbrev pub CornersDiffer : List ℕ → Type 0
CornersDiffer l = EachTriangle (λ a b c. (a ≢ b) × (b ≢ c) × (c ≢ a)) l

-- 'every directed edge occurs once with its reverse once'
abbrev pub EdgesPaired : List ℕ → Type 0
EdgesPaired l = (x y : ℕ) → 0 < occurs x y l → (occurs x y l ≡ 1) × (occurs y x l ≡ 1)

-- 'each vertex is used'
abbrev pub VerticesUsed : ℕ → ℕ → List ℕ → Type 0
VerticesUsed o v l = (u : ℕ) → o ≤ u → u < v → (i : ℕ) × (i < length l) × (get_or l i 0 ≡ u)

-- a list of t triangles over the vertices from o up to v is sound exactly when the four rules of 02 §11 hold
pub record Sound (o v t : ℕ) (l : List ℕ) : Type 0 where
  pub size : length l ≡ 3 * t
  pub within : CornersIn o v l
  pub differ : CornersDiffer l
  pub paired : EdgesPaired l
  pub used : VerticesUsed o v l

-- a part of a mesh, as a tube is one: t triangles, over the vertices from o up to v
pub record MeshPart (o v t : ℕ) (l : List ℕ) : Type 0 where
  pub size : length l ≡ 3 * t
  pub within : CornersIn o v l
