-- When mesh buffers are consistent, over p sides and d divisions (01 has 8 and 8). 02 §4: 'Mesh buffers are consistent when they have room for K, V and T,
-- V is within the limit, kinds are 0 to 2, n is 2 to 16,384, starts are the running sums from 0 and end at V and T, and each triangle's corners lie in its
-- own tube'
use Rattle.std.specs.Prelude.{ℕ, ◌+◌, ◌*◌, List, [], ◌∷◌, Bool, not, ◌&&◌, length, get_or, take, drop, eqb, ltb, leb}
use Rattle.lists.specs.Put.{upto}
use Rattle.lists.specs.Search.{every}
use Rattle.edges.specs.Tube.{vertices, triangles, vertex_total, triangle_total}
use Rattle.buffers.specs.declared.Counts.{Counts}
use Rattle.buffers.specs.Outs.{Outs, Sizes, most_vertices, sizes_of, tight}

-- ---- the words of tube i: 01, 'kind (0 coil, 1 helix, 2 sheet), first residue, residues n, first vertex, first triangle'. Which residue is first does not matter here

abbrev pub kind_at : List ℕ → ℕ → ℕ
kind_at tubes i = get_or tubes (5 * i) 0

abbrev pub residues_at : List ℕ → ℕ → ℕ
residues_at tubes i = get_or tubes (5 * i + 2) 0

abbrev pub first_vertex_at : List ℕ → ℕ → ℕ
first_vertex_at tubes i = get_or tubes (5 * i + 3) 0

abbrev pub first_triangle_at : List ℕ → ℕ → ℕ
first_triangle_at tubes i = get_or tubes (5 * i + 4) 0

-- ---- 'the running sums from 0'

-- n of the first i tubes, in order
unfoldable pub residues_to : List ℕ → ℕ → List ℕ
residues_to tubes i = upto (λ (j : ℕ). residues_at tubes j ∷ []) i

-- the vertices, and the triangles, of the first i tubes: where tube i starts, and where the last of i ends
unfoldable pub vertex_start : ℕ → ℕ → List ℕ → ℕ → ℕ
vertex_start p d tubes i = vertex_total p d (residues_to tubes i)

unfoldable pub triangle_start : ℕ → ℕ → List ℕ → ℕ → ℕ
triangle_start p d tubes i = triangle_total p d (residues_to tubes i)

-- ---- a tube

-- 'kinds are 0 to 2, n is 2 to 16,384, starts are the running sums from 0': of tube i, where v vertices and t triangles stand before it
unfoldable pub record_fits : List ℕ → ℕ → ℕ → ℕ → Bool
record_fits tubes v t i =
    leb (kind_at tubes i) 2 && (leb 2 (residues_at tubes i) && (leb (residues_at tubes i) 16384 && (eqb (first_vertex_at tubes i) v && eqb (first_triangle_at tubes i) t)))

-- every corner of a list is one of the vertices from o up to v, v not among them (as a rule: `CornersIn` of edges/specs/Sound)
unfoldable pub corners_in : ℕ → ℕ → List ℕ → Bool
corners_in o v l = every (λ (j : ℕ). leb o (get_or l j 0) && ltb (get_or l j 0) v) (length l)

-- the corners of a tube of n residues from triangle t on
abbrev pub corners_from : ℕ → ℕ → List ℕ → ℕ → ℕ → List ℕ
corners_from p d corners n t = take (3 * triangles p d n) (drop (3 * t) corners)

-- 'each triangle's corners lie in its own tube': of a tube of n residues from vertex v and triangle t on
unfoldable pub own_corners : ℕ → ℕ → List ℕ → ℕ → ℕ → ℕ → Bool
own_corners p d corners n v t = corners_in v (v + vertices p d n) (corners_from p d corners n t)

-- tube i is as it should be, with the tubes before it
unfoldable pub tube_fits : ℕ → ℕ → List ℕ → List ℕ → ℕ → Bool
tube_fits p d tubes corners i =
    let v = vertex_start p d tubes i in
    let t = triangle_start p d tubes i in
    record_fits tubes v t i && own_corners p d corners (residues_at tubes i) v t

-- ---- the buffers

-- every one of K tubes is, and the sums 'end at V and T'
unfoldable pub tubes_fit : ℕ → ℕ → List ℕ → List ℕ → Counts → Bool
tubes_fit p d tubes corners c =
    every (tube_fits p d tubes corners) c.tubes && (eqb (vertex_start p d tubes c.tubes) c.vertices && eqb (triangle_start p d tubes c.tubes) c.triangles)

-- of six buffers of these sizes, two of which are looked at: 'room for K, V and T, V is within the limit', and their tubes
unfoldable pub consistent_in : ℕ → ℕ → Sizes → List ℕ → List ℕ → Counts → Bool
consistent_in p d s tubes corners c = not (tight c s) && (leb c.vertices most_vertices && tubes_fit p d tubes corners c)

-- THE definition: mesh buffers are consistent, for K tubes, V vertices and T triangles
abbrev pub consistent : ℕ → ℕ → Outs → Counts → Bool
consistent p d o c = consistent_in p d (sizes_of o) o.tubes o.triangles c
