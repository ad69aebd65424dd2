-- The triangles of a tube, in the Rust's order, and of a mesh of tubes: over p sides, d divisions and n residues (02 §7; 01 has p = 8 and d = 8),
-- with vertices numbered from o on. Definitions only; what holds of them is in proofs/Theorems.
use Rattle.std.specs.Prelude.{Bool, true, false, cond, List, [], ◌∷◌, ◌++◌, map, ℕ, zero, suc, ◌+◌, ◌*◌, ◌-◌, ◌%◌, ltb}
use Rattle.lists.specs.Put.{upto}

-- ---- how many

-- 'n = 1 gives none': x for a tube, which has two residues or more, and none for fewer
abbrev pub from_two : {A : Type 0} → ℕ → A → A → A
from_two n none x = cond (ltb n 2) none x

-- 'd(n-1)+1 rings'
unfoldable pub rings : ℕ → ℕ → ℕ
rings d n = from_two n 0 (d * (n - 1) + 1)

-- 'p times that plus 2 vertices'
unfoldable pub vertices : ℕ → ℕ → ℕ → ℕ
vertices p d n = from_two n 0 (p * (d * (n - 1) + 1) + 2)

-- '2pd(n-1)+2p triangles'
unfoldable pub triangles : ℕ → ℕ → ℕ → ℕ
triangles p d n = from_two n 0 (2 * p * d * (n - 1) + 2 * p)

-- of 01's tubes, which have eight sides and eight divisions: 64n-54 vertices and 128n-112 triangles (proofs/Theorems, `vertex_count_lem` and `triangle_count_lem`)
abbrev pub vertex_count : ℕ → ℕ
vertex_count n = vertices 8 8 n

abbrev pub triangle_count : ℕ → ℕ
triangle_count n = triangles 8 8 n

-- ---- where the vertices are: 'Vertices: ring, start centre, later rings, end centre'

-- the first vertex of ring j: the start centre stands between ring 0 and ring 1
unfoldable pub ring : ℕ → ℕ → ℕ → ℕ
ring p o zero = o
ring p o (suc j) = o + (p * suc j + 1)

abbrev pub start_centre : ℕ → ℕ → ℕ
start_centre p o = o + p

-- the end centre stands after ring m, the last
abbrev pub end_centre : ℕ → ℕ → ℕ → ℕ
end_centre p o m = o + (p * suc m + 1)

-- ---- the triangles of a tube

-- the side after side k: the Rust's k1
unfoldable pub next : ℕ → ℕ → ℕ
next p k = (k + 1) % p

-- the triangle at side k of a cap around centre c, on the ring that begins at a (`emit_cap`): the start cap is inward, the end cap is not
abbrev pub cap_side : ℕ → Bool → ℕ → ℕ → ℕ → List ℕ
cap_side p true c a k = c ∷ (a + next p k) ∷ (a + k) ∷ []
cap_side p false c a k = c ∷ (a + k) ∷ (a + next p k) ∷ []

unfoldable pub cap : ℕ → Bool → ℕ → ℕ → List ℕ
cap p inward c a = upto (cap_side p inward c a) p

-- the two triangles at side k between the rings that begin at a and b (`append_ring_and_stitch`): (a0, b1, b0) and (a0, a1, b1)
abbrev pub band_side : ℕ → ℕ → ℕ → ℕ → List ℕ
band_side p a b k = (a + k) ∷ (b + next p k) ∷ (b + k) ∷ (a + k) ∷ (a + next p k) ∷ (b + next p k) ∷ []

unfoldable pub band : ℕ → ℕ → ℕ → List ℕ
band p a b = upto (band_side p a b) p

-- the band between ring j and the next
abbrev pub band_at : ℕ → ℕ → ℕ → List ℕ
band_at p o j = band p (ring p o j) (ring p o (suc j))

-- over rings 0 to m: the start cap, m bands, the end cap
unfoldable pub stack : ℕ → ℕ → ℕ → List ℕ
stack p o m = cap p true (start_centre p o) o ++ upto (band_at p o) m ++ cap p false (end_centre p o m) (ring p o m)

-- a tube of n residues has d bands for each step from a residue to the next
unfoldable pub tube : ℕ → ℕ → ℕ → ℕ → List ℕ
tube p d o n = from_two n [] (stack p o (d * (n - 1)))

-- ---- a mesh: tubes one after the other, each by its number of residues

-- V and T, the sums over the tubes
unfoldable pub vertex_total : ℕ → ℕ → List ℕ → ℕ
vertex_total p d [] = 0
vertex_total p d (n ∷ ns) = vertices p d n + vertex_total p d ns

unfoldable pub triangle_total : ℕ → ℕ → List ℕ → ℕ
triangle_total p d [] = 0
triangle_total p d (n ∷ ns) = triangles p d n + triangle_total p d ns

-- each tube's vertices are numbered after those of the tubes before it
unfoldable pub mesh : ℕ → ℕ → ℕ → List ℕ → List ℕ
mesh p d o [] = []
mesh p d o (n ∷ ns) = tube p d o n ++ mesh p d (o + vertices p d n) ns

-- 'corners and starts are renumbered' (02 §12): the vertices that were numbered from o on are numbered from q on
unfoldable pub renumbered : ℕ → ℕ → List ℕ → List ℕ
renumbered o q l = map (λ c. c - o + q) l
