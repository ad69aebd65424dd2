-- Every mesh that build hands out is consistent: from the theorems of promises alone. Assumes nothing.
use Prim.Native.Nat.{ℕ, zero, suc, ◌+◌, ◌*◌, ◌<◌, ◌≤◌}
use mathlib.Core.Bool.{true}
use mathlib.Core.List.{List, [], ◌∷◌, Memᴰ}
use mathlib.Core.Path.{◌≡◌, sym, ap, ◌∙◌}
use native.Mathlib.Nat.{add-zero}
use native.Mathlib.Numerals.{add-one}
use native.Mathlib.Omega.{arith}
use lib.ListN.{length, get_or, take}
use Rattle.lists.proofs.Any.{front_long, part_place}
use Rattle.edges.specs.Sound.{CornersIn}
use Rattle.edges.specs.Tube.{vertices, triangles}
use Rattle.edges.proofs.Theorems.{vertex_count_lem, triangle_count_lem}
use Rattle.protein.specs.Layout.{head_of, records_of}
use Rattle.protein.specs.Job.{segments_of}
use Rattle.protein.specs.Places.{far_by}
use Rattle.tubes.specs.Tubes.{Tube}
use Rattle.tubes.specs.List.{tube_list}
use Rattle.mesh.specs.Mesh.{size_of, tube_words, vertex_sum, triangle_sum, mesh_positions, mesh_normals, mesh_tags, mesh_triangles, mesh_words, mesh_boxes}
use Rattle.tube_theorems.proofs.Theorems.{tube_kind}
use Rattle.job.proofs.Accepted.{kind_few}
use Rattle.buffers.specs.declared.Counts.{Counts}
use Rattle.buffers.specs.Outs.{Outs, Room}
use Rattle.room.specs.Room.{Buffers}
use Rattle.std.specs.Prelude.{Ok}
use Rattle.promises.specs.Calls.{tubes_with, Builds}
use Rattle.promises.specs.Meshes.{protein_in, tubes_in, TubeAt, TubeStands, vertices_of, triangles_of}
use Rattle.promises.proofs.Tubes.{list_long_of}
use Rattle.promises.proofs.Meshes.{length_mesh_positions, length_mesh_normals, length_mesh_tags, length_mesh_triangles, length_mesh_words, length_mesh_boxes}
use Rattle.promises.proofs.Demands.{accepted, mesh_holds, tube_stands, every_tube, one_after_another, last_ends}
use Rattle.consistency.specs.Consistent.{kind_at, residues_at, first_vertex_at, first_triangle_at, vertex_start, triangle_start, consistent}
use Rattle.consistency.proofs.Laws.{start_none, start_more, start_up, triangle_none, triangle_more}
use Rattle.consistency.specs.Means.{IsConsistent, corners_of}
use Rattle.consistency.proofs.Means.{means_consistent}

-- tube k of a list is one of it
mem_at : (us : List Tube) (k : ℕ) (u : Tube) → TubeAt us k u → Memᴰ u us
mem_at [] zero u e = absurd (let z : ◌≡◌ {A = ℕ} 0 1 = cc in omega arith)
mem_at [] (suc k) u e = absurd (let z : ◌≡◌ {A = ℕ} 0 1 = cc in omega arith)
mem_at (v ∷ us) zero u e = Memᴰ.head (sym (ap (λ (l : List Tube). headed l v) e))
  where
    headed : List Tube → Tube → Tube
    headed [] x = x
    headed (y ∷ l) x = y
mem_at (v ∷ us) (suc k) u e = Memᴰ.tail (mem_at us k u e)

module _ {s : List ℕ} {b b' : Buffers} {c : Counts} (B : Builds s b (Ok c) b') where
  abbrev us : List Tube
  us = tubes_in s

  abbrev o : Outs
  o = b'.outs

  abbrev before : ℕ → ℕ
  before i = vertex_sum (take i us)

  abbrev triangles_before : ℕ → ℕ
  triangles_before i = triangle_sum (take i us)

  kind_of : (k : ℕ) (u : Tube) → TubeAt us k u → u.kind ≤ 2
  unfolding tubes_with tube_list
  kind_of k u at =
      tube_kind (protein_in s).job (segments_of (records_of s (head_of s))) (far_by (protein_in s).place) (kind_few s (head_of s) (accepted B).0.passes) u (mem_at us k u at)

  -- ---- the words of tube k
  module _ (k : ℕ) (u : Tube) (at : TubeAt us k u) where
    S : TubeStands (protein_in s) u k (before k) (triangles_before k) o
    S = tube_stands B at

    word : (j : ℕ) → j < 5 → get_or o.tubes (5 * k + j) 0 ≡ get_or (tube_words (before k) (triangles_before k) u) j 0
    word j h = part_place o.tubes (5 * k) 5 j 0 S.words.there h

    kind_is : kind_at o.tubes k ≡ u.kind
    unfolding tube_words
    kind_is = ap (λ (i : ℕ). get_or o.tubes i 0) (sym (add-zero (5 * k))) ∙ word 0 (omega arith)

    size_is : residues_at o.tubes k ≡ size_of u
    unfolding tube_words
    size_is = word 2 (omega arith)

    vertex_is : first_vertex_at o.tubes k ≡ before k
    unfolding tube_words
    vertex_is = word 3 (omega arith)

    triangle_is : first_triangle_at o.tubes k ≡ triangles_before k
    unfolding tube_words
    triangle_is = word 4 (omega arith)

    vertices_are : vertices 8 8 (residues_at o.tubes k) ≡ vertices_of u
    vertices_are = ap (vertices 8 8) size_is ∙ vertex_count_lem (size_of u) S.two

    triangles_are : triangles 8 8 (residues_at o.tubes k) ≡ triangles_of u
    triangles_are = ap (triangles 8 8) size_is ∙ triangle_count_lem (size_of u) S.two

  -- ---- the running sums of the records are those of the list
  vertex_sums : (i : ℕ) → i ≤ c.tubes → vertex_start 8 8 o.tubes i ≡ before i
  unfolding vertex_sum
  vertex_sums zero h = start_none 8 8 o.tubes
  vertex_sums (suc i) h =
      let t = every_tube B i h in
      ap (vertex_start 8 8 o.tubes) (sym (add-one i)) ∙ start_more 8 8 o.tubes i
      ∙ omega (arith, vertex_sums i (omega arith), vertices_are i t.0 t.1, (one_after_another s i t.0 t.1).0)

  triangle_sums : (i : ℕ) → i ≤ c.tubes → triangle_start 8 8 o.tubes i ≡ triangles_before i
  unfolding triangle_sum
  triangle_sums zero h = triangle_none 8 8 o.tubes
  triangle_sums (suc i) h =
      let t = every_tube B i h in
      ap (triangle_start 8 8 o.tubes) (sym (add-one i)) ∙ triangle_more 8 8 o.tubes i
      ∙ omega (arith, triangle_sums i (omega arith), triangles_are i t.0 t.1, (one_after_another s i t.0 t.1).1)

  limit : c.vertices ≤ 1048576
  limit = omega (arith, (accepted B).0.limit, ap (λ (n : Counts). n.vertices) (accepted B).2)

  -- ---- room, in the buffers as build left them
  has_room : Room c.tubes c.vertices c.triangles o
  has_room =
      let H = mesh_holds B in
      let L = list_long_of s (head_of s) in
      let P = protein_in s in
      let e = (accepted B).2 in
      let k : c.tubes ≡ length us = ap (λ (n : Counts). n.tubes) e in
      let v : c.vertices ≡ vertex_sum us = ap (λ (n : Counts). n.vertices) e in
      let t : c.triangles ≡ triangle_sum us = ap (λ (n : Counts). n.triangles) e in
      record {
        positions = rw v (front_long (mesh_positions P us) _ H.positions (length_mesh_positions P us L));
        normals = rw v (front_long (mesh_normals P us) _ H.normals (length_mesh_normals P us L));
        tags = rw v (front_long (mesh_tags us) _ H.tags (length_mesh_tags us L));
        triangles = rw t (front_long (mesh_triangles 0 us) _ H.triangles (length_mesh_triangles 0 us));
        tubes = rw k (front_long (mesh_words 0 0 us) _ H.tubes (length_mesh_words 0 0 us));
        boxes = rw k (front_long (mesh_boxes P us) _ H.boxes (length_mesh_boxes P us));
      }

  -- ---- each tube
  module _ (i : ℕ) (h : i < c.tubes) where
    abbrev u : Tube
    u = (every_tube B i h).0

    at : TubeAt us i u
    at = (every_tube B i h).1

    size_in : (2 ≤ residues_at o.tubes i) × (residues_at o.tubes i ≤ 16384)
    size_in =
        let two : 2 ≤ size_of u = (S i u at).two in
        let most : vertex_start 8 8 o.tubes (i + 1) ≤ vertex_start 8 8 o.tubes c.tubes = start_up 8 8 o.tubes (i + 1) c.tubes (omega arith) in (
          omega (arith, two, size_is i u at),
          omega (arith, most, limit, start_more 8 8 o.tubes i, vertices_are i u at, vertex_sums c.tubes (omega arith), (last_ends B).0, size_is i u at),
        )

    corners_in_lem : CornersIn (vertex_start 8 8 o.tubes i) (vertex_start 8 8 o.tubes i + vertices 8 8 (residues_at o.tubes i)) (corners_of 8 8 o i)
    corners_in_lem =
        rw (vertex_sums i (omega arith), triangle_sums i (omega arith), vertices_are i u at, triangles_are i u at, (S i u at).triangles.there) (S i u at).closed.within

  pub is_consistent : IsConsistent 8 8 o c
  is_consistent = record {
    room = has_room;
    limit = limit;
    kinds = λ i h. omega (arith, kind_is i (u i h) (at i h), kind_of i (u i h) (at i h));
    sizes = λ i h. size_in i h;
    vertex_starts = λ i h. vertex_is i (u i h) (at i h) ∙ sym (vertex_sums i (omega arith));
    triangle_starts = λ i h. triangle_is i (u i h) (at i h) ∙ sym (triangle_sums i (omega arith));
    corners = λ i h. corners_in_lem i h;
    vertex_end = vertex_sums c.tubes (omega arith) ∙ (last_ends B).0;
    triangle_end = triangle_sums c.tubes (omega arith) ∙ (last_ends B).1;
  }

  pub consistent_built : consistent 8 8 o c ≡ true
  consistent_built = means_consistent 8 8 o c is_consistent
