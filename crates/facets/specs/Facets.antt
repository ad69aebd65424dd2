-- The bytes of a binary STL file, from the writer's side and from the reader's: 02 §4, in its order. 'Print shops take binary STL: 80 header bytes,
-- little-endian u32 triangle count, then 50 bytes a triangle (facet normal, three corners, u16 zero).'
use Rattle.std.specs.Prelude.{ℕ, ◌+◌, ◌*◌, ◌≤◌, ◌<◌, List, [], ◌∷◌, ◌++◌, length, get_or, replicate, Float}
use Rattle.lists.specs.Put.{upto}
use Rattle.vectors.specs.declared.Vec3.{Vec3}
use Rattle.vectors.specs.Vec.{vsub, vcross, normalised, floats, vec_at}
use Rattle.little.specs.Little.{le32, le32_at, le_vec, le_vec_at}

-- ---- what is written

-- 'The facet normal is the normalised cross of the second corner less the first and the third less the first; length 0 gives zeros'
unfoldable pub facet_normal : Vec3 → Vec3 → Vec3 → Vec3
facet_normal a b c = normalised (vcross (vsub b a) (vsub c a))

-- '50 bytes a triangle (facet normal, three corners, u16 zero)': of the triangle with the corners a, b and c
unfoldable pub facet_bytes : Vec3 → Vec3 → Vec3 → List ℕ
facet_bytes a b c = le_vec (facet_normal a b c) ++ (le_vec a ++ (le_vec b ++ (le_vec c ++ (0 ∷ 0 ∷ []))))

-- where corner j of a triangle list stands: corners are the numbers of vertices
abbrev pub corner_at : List Float → List ℕ → ℕ → Vec3
corner_at positions corners j = vec_at positions (get_or corners j 0)

-- triangle i of a mesh
unfoldable pub facet_at : List Float → List ℕ → ℕ → List ℕ
facet_at positions corners i =
    facet_bytes (corner_at positions corners (3 * i)) (corner_at positions corners (3 * i + 1)) (corner_at positions corners (3 * i + 2))

-- 'triangles in order': the first t
unfoldable pub facets_of : List Float → List ℕ → ℕ → List ℕ
facets_of positions corners t = upto (facet_at positions corners) t

-- 'header all zero', and the count
unfoldable pub stl_head : ℕ → List ℕ
stl_head t = replicate 80 0 ++ le32 t

-- THE bytes of the file of t triangles
unfoldable pub stl_bytes : List Float → List ℕ → ℕ → List ℕ
stl_bytes positions corners t = stl_head t ++ facets_of positions corners t

-- how many they are: '84 + 50T' (`stl_long` of proofs/Laws)
abbrev pub stl_size : ℕ → ℕ
stl_size t = 84 + 50 * t

-- every corner of a list is the number of a vertex that the positions have
abbrev pub Drawn : List Float → List ℕ → Type 0
Drawn positions corners = (j : ℕ) → j < length corners → 3 * get_or corners j 0 + 3 ≤ length positions

-- ---- what is read: 'the reader skips header and u16'

-- the triangle count of a file
abbrev pub count_in : List ℕ → ℕ
count_in s = le32_at s 80

-- where facet i begins: behind as many bytes as a file of i facets has
abbrev pub facet_place : ℕ → ℕ
facet_place i = stl_size i

-- its normal's three floats, and those of its three corners
unfoldable pub one_normal : List ℕ → ℕ → List Float
one_normal s i = floats (le_vec_at s (facet_place i))

unfoldable pub one_corners : List ℕ → ℕ → List Float
one_corners s i = floats (le_vec_at s (facet_place i + 12)) ++ (floats (le_vec_at s (facet_place i + 24)) ++ floats (le_vec_at s (facet_place i + 36)))

-- '9T corner floats and 3T normal floats'
unfoldable pub listed_normals : List ℕ → ℕ → List Float
listed_normals s t = upto (one_normal s) t

unfoldable pub listed_corners : List ℕ → ℕ → List Float
listed_corners s t = upto (one_corners s) t
