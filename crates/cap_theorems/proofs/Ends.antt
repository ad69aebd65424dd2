-- The normals of a tube end with its end cap's, in the list and in the buffers. Assumes nothing.
use Rattle.std.specs.Prelude.{Some, None}
use Prim.Native.Nat.{ℕ, ◌+◌, ◌-◌, ◌*◌, ◌<◌, ◌≤◌}
use mathlib.Core.Bool.{true}
use mathlib.Core.List.{List, ◌++◌}
use mathlib.Core.Path.{◌≡◌, refl, sym, ◌∙◌, ap, subst}
use native.Mathlib.Omega.{arith}
use lib.ListN.{length, take, drop, length-append}
use lib.Seq.{take_at, take-take}
use lib.Ieee.{Float, nan, inf, fin}
use Rattle.vectors.specs.declared.Vec3.{Vec3}
use Rattle.vectors.specs.Vec.{vec_at, floats, direction_of, normalised}
use Rattle.vectors.proofs.Flat.{vec_front, vec_last, vec_part}
use Rattle.lists.specs.Put.{upto}
use Rattle.sizes.proofs.Lengths.{shines_lit}
use Rattle.sizes.proofs.Most.{Real}
use Rattle.edges.proofs.Theorems.{vertex_count_lem}
use Rattle.caps.specs.Caps.{end_normal}
use Rattle.caps.proofs.Laws.{chord_kept, tangent_taken}
use Rattle.skin.proofs.Laws as skin
use Rattle.skin.specs.Tube.{ordered, ring_normals, start_normal, skin_normals, normals_of}
use Rattle.protein.specs.Layout.{head_of, records_of}
use Rattle.protein.specs.Protein.{Protein}
use Rattle.job.proofs.Accepted.{accepted}
use Rattle.tubes.specs.Tubes.{Tube}
use Rattle.mesh.specs.Mesh.{size_of, kind_of, alphas_of, oxygens_of, spots, air_at, normals_by, tube_normals, vertex_sum, triangle_sum}
use Rattle.buffers.specs.Outs.{Outs}
use Rattle.buffers.specs.declared.Counts.{Counts}
use Rattle.room.specs.Room.{Buffers}
use Rattle.std.specs.Prelude.{Ok}
use Rattle.promises.specs.Calls.{Builds}
use Rattle.promises.specs.Meshes.{protein_in, tubes_in, TubeAt, TubeStands, vertices_of}
use Rattle.promises.proofs.Tubes.{length_alphas, length_normals}
use Rattle.promises.proofs.Boxes.{first_is, residues_is}
use Rattle.promises.proofs.Together as calls
use Rattle.promises.proofs.Demands as demands
use Rattle.cap_theorems.specs.Caps.{start_cap, end_cap, is_finite, Lit, points_in, guides_in, last_chord, last_tangent, normals_to, rust_normals}
use Rattle.cap_theorems.proofs.Within.{Normal}
use Rattle.cap_theorems.proofs.Jobs.{start_normal_lem, end_normal_lem, coincide}

-- ---- a normal is lit

finite : (k : ℕ) (x : Float) → Real k x → is_finite x ≡ true
finite k nan h = absurd h
finite k (inf s) h = absurd h
finite k (fin s m e) h = refl

normal_lit : (v : Vec3) → Normal v → Lit v
normal_lit v (r, s) = record { finite_x = finite 127 v.x r.0; finite_y = finite 127 v.y r.1; finite_z = finite 127 v.z r.2; not_zero = shines_lit v s }

-- ---- the list of a tube's normals

-- the start cap's, and the end cap's, by 01 and 02 §6
abbrev start_of : Protein → Tube → Vec3
start_of P u = start_normal (points_in P u) (guides_in P u) (size_of u)

abbrev pub cap_of : Protein → Tube → Vec3
cap_of P u = end_normal (points_in P u) (guides_in P u) (size_of u)

pub normals_are : (P : Protein) (u : Tube) → tube_normals P u ≡ normals_to P u (cap_of P u)
unfolding tube_normals normals_by normals_of skin_normals normals_to points_in guides_in
normals_are P u = ap (normals_of (kind_of u.kind) (spots P.place (alphas_of P u)) (air_at P.place (oxygens_of P u))) (length_alphas P u)

-- what stands before it
front_of : Protein → Tube → List Float
front_of P u =
    (ring_normals (kind_of u.kind) (points_in P u) (guides_in P u) (size_of u) 0 ++ floats (start_normal (points_in P u) (guides_in P u) (size_of u)))
    ++ upto (λ (s : ℕ). ring_normals (kind_of u.kind) (points_in P u) (guides_in P u) (size_of u) (s + 1)) (8 * (size_of u - 1))

front_then : (P : Protein) (u : Tube) (e : Vec3) → normals_to P u e ≡ front_of P u ++ floats e
unfolding normals_to ordered front_of
front_then P u e = refl

front_long : (P : Protein) (u : Tube) → 2 ≤ size_of u → length (front_of P u) ≡ 3 * (vertices_of u - 1)
front_long P u two =
    let a = ap length (normals_are P u ∙ front_then P u (cap_of P u)) in
    omega (arith, a, length-append (front_of P u) (floats (cap_of P u)), length_normals P u two, vertex_count_lem (size_of u) two)

pub long : (P : Protein) (u : Tube) (e : Vec3) → 2 ≤ size_of u → length (normals_to P u e) ≡ 3 * vertices_of u
long P u e two = ap length (front_then P u e) ∙ omega (arith, length-append (front_of P u) (floats e), front_long P u two)

-- whatever the end cap's normal, all before it is the same
pub fronts : (P : Protein) (u : Tube) (e d : Vec3) → 2 ≤ size_of u → take (3 * (vertices_of u - 1)) (normals_to P u e) ≡ take (3 * (vertices_of u - 1)) (normals_to P u d)
fronts P u e d two = front e ∙ sym (front d)
  where
    front : (e : Vec3) → take (3 * (vertices_of u - 1)) (normals_to P u e) ≡ front_of P u
    front e = ap (take (3 * (vertices_of u - 1))) (front_then P u e) ∙ take_at (front_of P u) (floats e) (3 * (vertices_of u - 1)) (front_long P u two)

-- and where the chord has a direction, so is that
pub as_rust : (P : Protein) (u : Tube) (v : Vec3) → direction_of (last_chord P u) ≡ Some v → tube_normals P u ≡ rust_normals P u
as_rust P u v e = let r = chord_kept (points_in P u) (guides_in P u) (size_of u) v e in normals_are P u ∙ ap (normals_to P u) (r.0 ∙ sym r.1)

-- the start cap's stands behind the eight of the first ring
start_in : (P : Protein) (u : Tube) (e : Vec3) → vec_at (normals_to P u e) 8 ≡ start_of P u
unfolding normals_to ordered
start_in P u e =
    let n = size_of u in
    let r = ring_normals (kind_of u.kind) (points_in P u) (guides_in P u) n 0 in
    let long : length (r ++ floats (start_of P u)) ≡ 27 = omega (arith, length-append r (floats (start_of P u)), skin.length_normals (kind_of u.kind) (points_in P u) (guides_in P u) n 0) in
    let l : ℕ → List Float = λ s. ring_normals (kind_of u.kind) (points_in P u) (guides_in P u) n (s + 1) in
    vec_front ((r ++ floats (start_of P u)) ++ upto l (8 * (n - 1))) (floats e) 8 (omega (arith, long, length-append (r ++ floats (start_of P u)) (upto l (8 * (n - 1)))))
    ∙ vec_front (r ++ floats (start_of P u)) (upto l (8 * (n - 1))) 8 (omega (arith, long))
    ∙ vec_last r (start_of P u) 8 (skin.length_normals (kind_of u.kind) (points_in P u) (guides_in P u) n 0)

-- ---- in the buffers

module _ (P : Protein) (u : Tube) (k v t : ℕ) (o : Outs) (S : TubeStands P u k v t o) where
  pub cap_is : vec_at o.normals (end_cap o k) ≡ cap_of P u
  cap_is =
      let two = S.two in
      let at : end_cap o k ≡ v + (vertices_of u - 1) = omega (arith, first_is P u k v t o S, residues_is P u k v t o S) in
      ap (vec_at o.normals) at
      ∙ vec_part o.normals (tube_normals P u) v (vertices_of u) (vertices_of u - 1) S.normals.there (omega arith)
      ∙ ap (λ (l : List Float). vec_at l (vertices_of u - 1)) (normals_are P u ∙ front_then P u (cap_of P u))
      ∙ vec_last (front_of P u) (cap_of P u) (vertices_of u - 1) (front_long P u two)

  pub start_is : vec_at o.normals (start_cap o k) ≡ start_of P u
  start_is =
      let two = S.two in
      let at : start_cap o k ≡ v + 8 = omega (arith, first_is P u k v t o S) in
      ap (vec_at o.normals) at
      ∙ vec_part o.normals (tube_normals P u) v (vertices_of u) 8 S.normals.there (omega arith)
      ∙ ap (λ (l : List Float). vec_at l 8) (normals_are P u) ∙ start_in P u (cap_of P u)

module _ (s : List ℕ) (b b' : Buffers) (c : Counts) (k : ℕ) (B : Builds s b (Ok c) b') where
  module _ (u : Tube) (at : TubeAt (tubes_in s) k u) where
    stands : TubeStands (protein_in s) u k (vertex_sum (take k (tubes_in s))) (triangle_sum (take k (tubes_in s))) b'.outs
    stands = calls.stands s b b' c k u B at

    pub chord_taken : (v : Vec3) → direction_of (last_chord (protein_in s) u) ≡ Some v → (vec_at b'.outs.normals (end_cap b'.outs k) ≡ v) × (normalised (last_chord (protein_in s) u) ≡ v)
    chord_taken v e =
        let r = chord_kept (points_in (protein_in s) u) (guides_in (protein_in s) u) (size_of u) v e in
        (cap_is (protein_in s) u k _ _ b'.outs stands ∙ r.0, r.1)

    pub tangent : direction_of (last_chord (protein_in s) u) ≡ None → vec_at b'.outs.normals (end_cap b'.outs k) ≡ last_tangent (protein_in s) u
    tangent e = cap_is (protein_in s) u k _ _ b'.outs stands ∙ tangent_taken (points_in (protein_in s) u) (guides_in (protein_in s) u) (size_of u) e

    pub others : (length (rust_normals (protein_in s) u) ≡ 3 * vertices_of u)
        × (take (3 * (vertices_of u - 1)) (drop (3 * vertex_sum (take k (tubes_in s))) b'.outs.normals) ≡ take (3 * (vertices_of u - 1)) (rust_normals (protein_in s) u))
    others =
        let P = protein_in s in
        let two = stands.two in (
          long P u (normalised (last_chord P u)) two,
          sym (take-take (3 * (vertices_of u - 1)) (3 * vertices_of u) (drop (3 * vertex_sum (take k (tubes_in s))) b'.outs.normals) (omega arith))
              ∙ ap (take (3 * (vertices_of u - 1))) (stands.normals.there ∙ normals_are P u)
              ∙ fronts P u (cap_of P u) (normalised (last_chord P u)) two,
        )

    pub same_points : vec_at (points_in (protein_in s) u) (size_of u - 1) ≡ vec_at (points_in (protein_in s) u) (size_of u - 2) → direction_of (last_chord (protein_in s) u) ≡ None
    same_points e = coincide s (head_of s) (records_of s (head_of s)) (accepted s (head_of s) (demands.accepted B).0.passes) u stands.two e

  pub lit : k < c.tubes → Lit (vec_at b'.outs.normals (start_cap b'.outs k)) × Lit (vec_at b'.outs.normals (end_cap b'.outs k))
  lit h =
      let t = calls.there s b b' c B k h in
      let S = stands t.0 t.1 in
      let A = accepted s (head_of s) (demands.accepted B).0.passes in
      let q = records_of s (head_of s) in (
        subst Lit (sym (start_is (protein_in s) t.0 k _ _ b'.outs S)) (normal_lit _ (start_normal_lem s (head_of s) q A t.0 S.two)),
        subst Lit (sym (cap_is (protein_in s) t.0 k _ _ b'.outs S)) (normal_lit _ (end_normal_lem s (head_of s) q A t.0 S.two)),
      )
