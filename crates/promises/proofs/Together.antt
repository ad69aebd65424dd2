-- The calls together: tubes in a mesh, plan beside build, the tube call on what build wrote. Assumes nothing.
use Prim.Native.Nat.{ℕ, zero, suc, ◌+◌, ◌*◌, ◌<◌, ◌≤◌}
use mathlib.Core.List.{List, [], ◌∷◌}
use mathlib.Core.Path.{◌≡◌, refl, sym, ◌∙◌, ap, subst}
use native.Mathlib.Nat.{zero-add}
use native.Mathlib.Omega.{arith}
use lib.ListN.{length, take}
use lib.Seq.{take_all}
use Rattle.edges.specs.Sound.{Sound}
use Rattle.edges.specs.Tube.{vertex_count, triangle_count}
use Rattle.protein.specs.Layout.{head_of}
use Rattle.job.proofs.Laws.{check_whole}
use Rattle.tubes.specs.Tubes.{Tube}
use Rattle.mesh.specs.Mesh.{size_of, tube_triangles, tube_words, vertex_sum, triangle_sum}
use Rattle.walk.specs.declared.Five.{Five}
use Rattle.buffers.specs.declared.Counts.{Counts}
use Rattle.room.specs.Room.{Scratch, Buffers, no_words}
use Rattle.tube_call.specs.Part.{Tubed}
use Rattle.std.specs.Prelude.{Result, Ok, Err}
use Rattle.job.specs.declared.Refusal.{Refusal}
use Rattle.job.specs.declared.Refusal.TheVariants.{NoRoom}
use Rattle.promises.specs.Calls.{counts_of, words_at, five_words, Builds, Plans, with_words}
use Rattle.promises.specs.Meshes.{protein_in, tubes_in, Buildable, Shorter, RoomFor, NoLess, TubeAt, Stands, TubeStands, vertices_of, triangles_of}
use Rattle.promises.proofs.Tubes.{list_long_of, each_most}
use Rattle.promises.proofs.Told.{built_is}
use Rattle.promises.proofs.Checks.{enough_more}
use Rattle.promises.proofs.Answers.{meshed, built, unbuilt, for_room}
use Rattle.promises.proofs.Plans.{planned}
use Rattle.promises.proofs.Parts as parts

-- ---- the tubes of a mesh

pub stands : (s : List ℕ) (b b' : Buffers) (c : Counts) (k : ℕ) (u : Tube) → Builds s b (Ok c) b' → TubeAt (tubes_in s) k u
    → TubeStands (protein_in s) u k (vertex_sum (take k (tubes_in s))) (triangle_sum (take k (tubes_in s))) b'.outs
stands s b b' c k u B at = parts.stands (protein_in s) (tubes_in s) b.outs b'.outs k u (list_long_of s (head_of s)) (meshed s b b' c B).holds at

-- K of a mesh is its list's length
pub long : (s : List ℕ) (b b' : Buffers) (c : Counts) → Builds s b (Ok c) b' → c.tubes ≡ length (tubes_in s)
long s b b' c B = ap (λ (n : Counts). n.tubes) (meshed s b b' c B).counts

pub there : (s : List ℕ) (b b' : Buffers) (c : Counts) → Builds s b (Ok c) b' → (k : ℕ) → k < c.tubes → (u : Tube) × TubeAt (tubes_in s) k u
there s b b' c B k h = parts.there (tubes_in s) k (omega (arith, long s b b' c B))

pub next : (s : List ℕ) (k : ℕ) (u : Tube) → TubeAt (tubes_in s) k u
    → (vertex_sum (take (suc k) (tubes_in s)) ≡ vertex_sum (take k (tubes_in s)) + vertices_of u)
    × (triangle_sum (take (suc k) (tubes_in s)) ≡ triangle_sum (take k (tubes_in s)) + triangles_of u)
next s k u at = (parts.vertices_on (tubes_in s) k u at (list_long_of s (head_of s)), parts.triangles_on (tubes_in s) k u at (list_long_of s (head_of s)))

pub ends : (s : List ℕ) (b b' : Buffers) (c : Counts) → Builds s b (Ok c) b'
    → (vertex_sum (take c.tubes (tubes_in s)) ≡ c.vertices) × (triangle_sum (take c.tubes (tubes_in s)) ≡ c.triangles)
ends s b b' c B =
    let e = (meshed s b b' c B).counts in
    let a : take c.tubes (tubes_in s) ≡ tubes_in s = take_all c.tubes (tubes_in s) (omega (arith, long s b b' c B)) in
    (ap vertex_sum a ∙ sym (ap (λ (n : Counts). n.vertices) e), ap triangle_sum a ∙ sym (ap (λ (n : Counts). n.triangles) e))

pub closed : (s : List ℕ) (b b' : Buffers) (c : Counts) → Builds s b (Ok c) b'
    → Sound 0 c.vertices c.triangles (take (3 * c.triangles) b'.outs.triangles)
closed s b b' c B =
    let M = meshed s b b' c B in
    subst (λ (n : Counts). Sound 0 n.vertices n.triangles (take (3 * n.triangles) b'.outs.triangles)) (sym M.counts)
    (parts.front_closed (protein_in s) (tubes_in s) b.outs b'.outs M.holds)

-- ---- plan beside build

-- what can be built can be built with more scratch
still : (s : List ℕ) (c d : Scratch) → NoLess c d → Buildable s c → Buildable s d
still s c d N R = record { passes = R.passes; scratch = enough_more s c d N R.scratch; limit = R.limit }

pub then_build : (s : List ℕ) (k : ℕ) (c c' : Scratch) (n : Counts) (f : Five) (b b' : Buffers) (r : Result Counts Refusal)
    → Plans s k c (Ok (with_words n f)) c' → NoLess c b.scratch → RoomFor b.outs n → Builds s b r b' → r ≡ Ok n
then_build s k c c' n f b b' r P N room B =
    let p = planned s k c c' n f P in
    built_is B ∙ built s b (still s c b.scratch N p.0) (subst (RoomFor b.outs) p.1 room) ∙ ap Ok (sym p.1)

-- and without that room is refused
pub then_refused : (s : List ℕ) (k : ℕ) (c c' : Scratch) (n : Counts) (f : Five) (b b' : Buffers) (r : Result Counts Refusal)
    → Plans s k c (Ok (with_words n f)) c' → NoLess c b.scratch → Shorter b.outs n → Builds s b r b'
    → r ≡ Err (NoRoom n.tubes n.vertices n.triangles)
then_refused s k c c' n f b b' r P N h B =
    let p = planned s k c c' n f P in
    built_is B ∙ unbuilt s b (still s c b.scratch N p.0) (subst (Shorter b.outs) p.1 h)
    ∙ ap (λ (m : Counts). Err (NoRoom m.tubes m.vertices m.triangles)) (sym p.1)

-- who was refused for room, and lends it, gets the mesh
pub room_then : (s : List ℕ) (b b' d d' : Buffers) (k v t : ℕ) (r : Result Counts Refusal) → Builds s b (Err (NoRoom k v t)) b' → NoLess b.scratch d.scratch
    → RoomFor d.outs (record { tubes = k; vertices = v; triangles = t }) → Builds s d r d' → r ≡ Ok (record { tubes = k; vertices = v; triangles = t })
room_then s b b' d d' k v t r B N room D =
    let M = for_room s b b' k v t B in
    let n : Counts = record { tubes = k; vertices = v; triangles = t } in
    let e : n ≡ counts_of (tubes_in s) = rw (M.1.0, M.1.1, M.1.2) in
    built_is D ∙ built s d (still s b.scratch d.scratch N M.0) (subst (RoomFor d.outs) e room) ∙ ap Ok (sym e)

-- past the list there are no words
past : (v t : ℕ) (us : List Tube) (k : ℕ) → length us ≤ k → words_at v t us k ≡ no_words
unfolding words_at
past v t [] k h = refl
past v t (u ∷ us) zero h = absurd (omega arith)
past v t (u ∷ us) (suc k) h = past (v + vertex_count (size_of u)) (t + triangle_count (size_of u)) us k (omega arith)

pub words : (s : List ℕ) (k : ℕ) (c c' : Scratch) (n m : Counts) (f : Five) (b b' : Buffers) → Plans s k c (Ok (with_words n f)) c' → Builds s b (Ok m) b'
    → (n ≡ m) × (k < m.tubes → Stands b'.outs.tubes (5 * k) 5 (five_words f)) × (m.tubes ≤ k → f ≡ no_words)
words s k c c' n m f b b' P B =
    let p = planned s k c c' n f P in
    let M = meshed s b b' m B in
    let l = long s b b' m B in (
      p.1 ∙ sym M.counts,
      (λ h.
          let t = there s b b' m B k h in
          let u = t.0 in
          let e : five_words f ≡ tube_words (vertex_sum (take k (tubes_in s))) (triangle_sum (take k (tubes_in s))) u =
          ap five_words p.2 ∙ rw (zero-add (vertex_sum (take k (tubes_in s))), zero-add (triangle_sum (take k (tubes_in s)))) at (parts.words_are 0 0 (tubes_in s) k u t.1) in
          subst (Stands b'.outs.tubes (5 * k) 5) (sym e) (stands s b b' m k t.0 B t.1).words),
      (λ h. p.2 ∙ past 0 0 (tubes_in s) k (omega (arith, l))),
    )

-- ---- the tube call on what build wrote

pub part : (s : List ℕ) (b b' : Buffers) (c : Counts) (k : ℕ) (u : Tube) (p : List ℕ) → Builds s b (Ok c) b' → TubeAt (tubes_in s) k u
    → Tubed b'.outs.tubes b'.outs.triangles k p
    → (p ≡ tube_triangles (vertex_sum (take k (tubes_in s))) u)
    × Sound (vertex_sum (take k (tubes_in s))) (vertex_sum (take k (tubes_in s)) + vertices_of u) (triangles_of u) p
part s b b' c k u p B at T =
    let S = stands s b b' c k u B at in
    let w = check_whole s (head_of s) (meshed s b b' c B).ready.passes in
    let most : size_of u ≤ 16384 = parts.every_at (λ x. size_of x ≤ 16384) (tubes_in s) k u at (each_most s (head_of s) w.few_residues) in
    let e = T.part ∙ parts.part_is (protein_in s) u k _ _ b'.outs most S in
    (e, subst (Sound _ _ (triangles_of u)) (sym e) S.closed)
