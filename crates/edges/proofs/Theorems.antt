-- WHAT IS PROVED of tubes and of meshes of tubes: over p sides (three or more), d divisions, n residues and any first vertex o. Where nothing is
-- asked of n, a theorem holds under two residues too, of no tube. Assumes nothing.
use mathlib.Core.Path.{◌≡◌, refl, sym, ap, ◌∙◌}
use mathlib.Core.Logic.{⊎_elim, ◌↔◌}
use mathlib.Core.List.{List, [], ◌∷◌, ◌++◌, append_assoc, append-nil}
use Prim.Native.Nat.{ℕ, ◌+◌, ◌*◌, ◌-◌, ◌≤◌, ◌<◌}
use native.Mathlib.Nat.{add-zero, mul_assoc}
use native.Mathlib.Omega.{arith}
use borrow.Author.Tests.{lt-ltb, le-ltb}
use lib.ListN.{length, take, drop, length-append}
use lib.Seq.{take-append_seam, drop_at}
use Rattle.edges.specs.Sound.{occurs, EdgesPaired, Sound, MeshPart}
use Rattle.edges.specs.Tube.{rings, vertices, triangles, vertex_count, triangle_count, stack, tube, mesh, vertex_total, triangle_total, renumbered}
use Rattle.edges.proofs.Count.{lt_or_le}
use Rattle.edges.proofs.Two.{under_two, from_two_lem}
use Rattle.edges.proofs.Stack.{stack_size}
use Rattle.edges.proofs.Glue.{recount, empty_sound, stack_sound, glue, glue_paired, unglue, unglue_sound, joined}
use Rattle.edges.proofs.Owned.{EdgesOwned, owned, paired}
use Rattle.edges.proofs.Renumber.{renumber, renumber_part, renumber_paired}
use Rattle.edges.proofs.Shift.{mesh_moved}

-- ---- counts

-- 'n = 1 gives none': under two residues there are no rings, no vertices, no triangles and no corners
pub no_tube : (p d o n : ℕ) → n < 2 → (rings d n ≡ 0) × (vertices p d n ≡ 0) × (triangles p d n ≡ 0) × (tube p d o n ≡ [])
no_tube = under_two

-- a tube has d(n-1)+1 rings, p times that plus 2 vertices, and 2pd(n-1)+2p triangles
pub counts : (p d n : ℕ) → 2 ≤ n
    → (rings d n ≡ d * (n - 1) + 1) × (vertices p d n ≡ p * rings d n + 2) × (triangles p d n ≡ 2 * p * d * (n - 1) + 2 * p)
unfolding rings vertices triangles
counts p d n h = simp (le-ltb n 2 h) (refl, refl, refl)

-- 01's eight sides and eight divisions: 8(n-1)+1 rings, 64n-54 vertices, 128n-112 triangles
pub ribbon_counts : (n : ℕ) → 2 ≤ n → (rings 8 n ≡ 8 * (n - 1) + 1) × (vertices 8 8 n ≡ 64 * n - 54) × (triangles 8 8 n ≡ 128 * n - 112)
ribbon_counts n h = let c = counts 8 8 n h in (c.0, omega (arith, c.0, c.1), omega (arith, c.2))

pub vertex_count_lem : (n : ℕ) → 2 ≤ n → vertex_count n ≡ 64 * n - 54
vertex_count_lem n h = (ribbon_counts n h).1

pub triangle_count_lem : (n : ℕ) → 2 ≤ n → triangle_count n ≡ 128 * n - 112
triangle_count_lem n h = (ribbon_counts n h).2

-- ---- a tube

-- it is the start cap, d(n-1) bands and the end cap
pub tube_is : (p d o n : ℕ) → 2 ≤ n → tube p d o n ≡ stack p o (d * (n - 1))
tube_is = from_two_lem

-- three corners are written for each triangle that is counted
pub tube_size : (p d o n : ℕ) → length (tube p d o n) ≡ 3 * triangles p d n
unfolding triangles tube
tube_size p d o n = ⊎_elim
    (λ h. simp (lt-ltb n 2 h))
    (λ h. simp (le-ltb n 2 h) (stack_size p o (d * (n - 1)) ∙ omega (arith, mul_assoc (2 * p) d (n - 1))))
    (lt_or_le n 2)

-- THE EDGE THEOREM. Every tube is sound: each corner lies within the tube's own vertices, the corners of a triangle differ, each directed edge occurs
-- exactly once and its reverse exactly once, and each vertex is used
pub tube_sound : (p d o n : ℕ) → 3 ≤ p → Sound o (o + vertices p d n) (triangles p d n) (tube p d o n)
unfolding vertices triangles tube
tube_sound p d o n sides = ⊎_elim
    (λ h. simp (lt-ltb n 2 h) (empty_sound o))
    (λ h. simp (le-ltb n 2 h) (recount (omega arith) (omega (arith, mul_assoc (2 * p) d (n - 1))) (stack_sound p o (d * (n - 1)) sides)))
    (lt_or_le n 2)

-- its edge rule alone, in full
pub tube_edges : (p d o n : ℕ) → 3 ≤ p → (x y : ℕ) → 0 < occurs x y (tube p d o n) → (occurs x y (tube p d o n) ≡ 1) × (occurs y x (tube p d o n) ≡ 1)
tube_edges p d o n sides = (tube_sound p d o n sides).paired

-- the edge rule refuses something: a triangle by itself has edges with no reverse
pub lone_triangle : EdgesPaired (0 ∷ 1 ∷ 2 ∷ []) → ⊥
unfolding occurs
lone_triangle rule = omega (arith, rule 0 1 (omega arith))

-- the edge rule says no less than this: no two corners start one edge, and for each corner some corner starts the reverse of its edge
pub edges_owned : (t : ℕ) (l : List ℕ) → length l ≡ 3 * t → EdgesPaired l ↔ EdgesOwned l
edges_owned t l size = (owned t l size, paired t l size)

-- ---- a mesh of tubes

-- every mesh of tubes is sound, over the sums of their counts
pub mesh_sound : (p d o : ℕ) (ns : List ℕ) → 3 ≤ p → Sound o (o + vertex_total p d ns) (triangle_total p d ns) (mesh p d o ns)
unfolding mesh vertex_total triangle_total
mesh_sound p d o [] sides = empty_sound o
mesh_sound p d o (n ∷ ns) sides =
    recount (omega arith) refl (glue _ _ _ (omega arith) (omega arith) (tube_sound p d o n sides) (mesh_sound p d (o + vertices p d n) ns sides))

-- three corners are written for each triangle that is counted
pub mesh_size : (p d o : ℕ) (ns : List ℕ) → length (mesh p d o ns) ≡ 3 * triangle_total p d ns
unfolding mesh triangle_total
mesh_size p d o [] = refl
mesh_size p d o (n ∷ ns) = length-append (tube p d o n) _ ∙ omega (arith, tube_size p d o n, mesh_size p d (o + vertices p d n) ns)

-- tubes followed by tubes (02 §12: 'that list followed by the new job's tubes'): the counts add up
pub mesh_totals : (p d : ℕ) (ms ns : List ℕ)
    → (vertex_total p d (ms ++ ns) ≡ vertex_total p d ms + vertex_total p d ns) × (triangle_total p d (ms ++ ns) ≡ triangle_total p d ms + triangle_total p d ns)
unfolding vertex_total triangle_total
mesh_totals p d [] ns = (omega arith, omega arith)
mesh_totals p d (m ∷ ms) ns = let t = mesh_totals p d ms ns in (omega (arith, t.0), omega (arith, t.1))

-- and the second mesh stands after the first, numbered after it
pub mesh_followed : (p d o : ℕ) (ms ns : List ℕ) → mesh p d o (ms ++ ns) ≡ mesh p d o ms ++ mesh p d (o + vertex_total p d ms) ns
unfolding mesh vertex_total
mesh_followed p d o [] ns = ap (λ (v : ℕ). mesh p d v ns) (omega arith)
mesh_followed p d o (m ∷ ms) ns =
    let v : ℕ = o + vertices p d m in
    ap (λ (l : List ℕ). tube p d o m ++ l) (mesh_followed p d v ms ns ∙ ap (λ (w : ℕ). mesh p d v ms ++ mesh p d w ns) (omega arith))
    ∙ sym (append_assoc (tube p d o m) (mesh p d v ms) _)

-- one tube more: what a loop over the tubes writes
pub mesh_more : (p d o : ℕ) (ms : List ℕ) (n : ℕ) → mesh p d o (ms ++ n ∷ []) ≡ mesh p d o ms ++ tube p d (o + vertex_total p d ms) n
unfolding mesh
mesh_more p d o ms n = mesh_followed p d o ms (n ∷ []) ∙ ap (λ (l : List ℕ). mesh p d o ms ++ l) (append-nil (tube p d (o + vertex_total p d ms) n))

-- the part of a mesh that begins at a tube's first triangle is that tube, numbered from its first vertex: both are sums over the tubes before it
pub mesh_part : (p d o : ℕ) (ms : List ℕ) (n : ℕ) (ns : List ℕ)
    → take (3 * triangles p d n) (drop (3 * triangle_total p d ms) (mesh p d o (ms ++ n ∷ ns))) ≡ tube p d (o + vertex_total p d ms) n
unfolding mesh
mesh_part p d o ms n ns =
    let v : ℕ = o + vertex_total p d ms in
    let rest = mesh p d (v + vertices p d n) ns in
    ap (λ (l : List ℕ). take (3 * triangles p d n) (drop (3 * triangle_total p d ms) l)) (mesh_followed p d o ms (n ∷ ns))
    ∙ ap (take (3 * triangles p d n)) (drop_at (mesh p d o ms) (tube p d v n ++ rest) _ (mesh_size p d o ms))
    ∙ ap (λ (k : ℕ). take k (tube p d v n ++ rest)) (sym (tube_size p d v n)) ∙ take-append_seam (tube p d v n) rest

-- so each tube of a mesh is sound by itself, over its own vertices
pub mesh_part_sound : (p d o : ℕ) (ms : List ℕ) (n : ℕ) (ns : List ℕ) → 3 ≤ p
    → Sound (o + vertex_total p d ms) (o + vertex_total p d ms + vertices p d n) (triangles p d n)
    (take (3 * triangles p d n) (drop (3 * triangle_total p d ms) (mesh p d o (ms ++ n ∷ ns))))
mesh_part_sound p d o ms n ns sides = rw mesh_part (tube_sound p d (o + vertex_total p d ms) n sides)

-- ---- any mesh (02 §12): parts one after the other, over vertices one after the other

-- what is sound, followed by what is sound over the next vertices, is sound
pub followed_sound : (o v w : ℕ) {t s : ℕ} {l r : List ℕ} → o ≤ v → v ≤ w → Sound o v t l → Sound v w s r → Sound o w (t + s) (l ++ r)
followed_sound = glue

-- new numbers keep every rule
pub renumbered_sound : (o v q t : ℕ) (l : List ℕ) → Sound o v t l → Sound q (q + (v - o)) t (renumbered o q l)
renumbered_sound = renumber

-- a mesh that keeps the edge rule keeps it when a mesh of tubes is appended
pub appended_edges : (p d v t : ℕ) (l ns : List ℕ) → 3 ≤ p → MeshPart 0 v t l → EdgesPaired l → EdgesPaired (l ++ mesh p d v ns)
appended_edges p d v t l ns sides old rule =
    let s = mesh_sound p d v ns sides in
    glue_paired old (record { size = s.size; within = s.within }) rule s.paired

-- and when a part of it is taken out, and what follows is renumbered
pub removed_edges : (o u v w a b c : ℕ) (kept gone rest : List ℕ) → o ≤ u → u ≤ v → MeshPart o u a kept → MeshPart u v b gone → MeshPart v w c rest
    → EdgesPaired (kept ++ gone ++ rest) → EdgesPaired (kept ++ renumbered v u rest)
removed_edges o u v w a b c kept gone rest ou uv k g r rule =
    let outer = unglue (joined k g ou uv) r rule in
    let inner = unglue k g outer.0 in
    glue_paired k (renumber_part v w u r) inner.0 (renumber_paired v w u c rest r.size r.within outer.1)

-- and so does every other rule, where they all held
pub removed_sound : (o u v w a b c t : ℕ) (kept gone rest : List ℕ) → o ≤ u → u ≤ v → v ≤ w → MeshPart o u a kept → MeshPart u v b gone → MeshPart v w c rest
    → Sound o w t (kept ++ gone ++ rest) → Sound o (u + (w - v)) (a + c) (kept ++ renumbered v u rest)
removed_sound o u v w a b c t kept gone rest ou uv vw k g r s =
    let outer = unglue_sound (joined k g ou uv) r (omega arith) vw s in
    let inner = unglue_sound k g ou uv outer.0 in
    glue o u (u + (w - v)) ou (omega arith) inner.0 (renumber v w u c rest outer.1)

-- a mesh of tubes with new numbers is the mesh of tubes that is built with those numbers
pub mesh_renumbered : (p d o q : ℕ) (ns : List ℕ) → renumbered o q (mesh p d o ns) ≡ mesh p d q ns
mesh_renumbered p d o q ns =
    ap (λ (v : ℕ). renumbered o q (mesh p d v ns)) (sym (add-zero o)) ∙ mesh_moved p d o q 0 ns ∙ ap (λ (v : ℕ). mesh p d v ns) (add-zero q)

-- so a mesh of tubes with one tube taken out is the mesh of the tubes that are left. That tube has the vertices from u up to v
pub mesh_without : (p d o : ℕ) (ms : List ℕ) (n : ℕ) (ns : List ℕ) (u v : ℕ) → u ≡ o + vertex_total p d ms → v ≡ u + vertices p d n
    → (mesh p d o (ms ++ n ∷ ns) ≡ mesh p d o ms ++ tube p d u n ++ mesh p d v ns) × (mesh p d o ms ++ renumbered v u (mesh p d v ns) ≡ mesh p d o (ms ++ ns))
unfolding mesh
mesh_without p d o ms n ns u v eu ev = (
  mesh_followed p d o ms (n ∷ ns) ∙ rw (ev, eu) (sym (append_assoc (mesh p d o ms) _ _)),
  ap (λ (l : List ℕ). mesh p d o ms ++ l) (mesh_renumbered p d v u ns ∙ ap (λ (k : ℕ). mesh p d k ns) eu) ∙ sym (mesh_followed p d o ms ns),
)
