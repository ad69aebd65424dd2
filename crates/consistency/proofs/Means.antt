-- What the definition means (specs/Means), both ways, over any p and d; and what a program that reads a consistent mesh may build on. Assumes nothing.
use Prim.Native.Nat.{ℕ, ◌+◌, ◌*◌, ◌-◌, ◌<◌, ◌≤◌}
use mathlib.Core.Bool.{true, not}
use mathlib.Core.Path.{◌≡◌, refl}
use native.Mathlib.Omega.{arith}
use lib.ListN.{length, get_or, drop, length-drop}
use lib.Seq.{length-take-le}
use lib.Dec.{eqb, leb}
use borrow.Author.Tests.{le-leb, eq-eqb, leb-true, eqb-true, not-true}
use Rattle.lists.specs.Search.{every}
use Rattle.lists.proofs.Any.{part_place}
use Rattle.lists.proofs.Bools.{and_both}
use Rattle.lists.proofs.Searches.{every_takes, takes_every}
use Rattle.buffers.specs.declared.Counts.{Counts}
use Rattle.buffers.specs.Outs.{Outs, sizes_of, tight}
use Rattle.buffers.proofs.Laws.{roomy, not_tight}
use Rattle.edges.specs.Sound.{CornersIn}
use Rattle.edges.specs.Tube.{vertices, triangles}
use Rattle.consistency.specs.Consistent.{kind_at, residues_at, first_vertex_at, first_triangle_at, vertex_start, triangle_start, record_fits, own_corners, tube_fits, tubes_fit, consistent_in, consistent}
use Rattle.consistency.specs.Means.{corners_of, IsConsistent}
use Rattle.consistency.proofs.Laws.{record_means, means_record, corners_mean, mean_corners, rising, part_of, start_more, start_up, triangle_none, triangle_more, two_each}

module _ (p d : ℕ) (o : Outs) (c : Counts) where
  -- of one tube
  tube_means : (i : ℕ) → tube_fits p d o.tubes o.triangles i ≡ true
      → (kind_at o.tubes i ≤ 2) × (2 ≤ residues_at o.tubes i) × (residues_at o.tubes i ≤ 16384) × (first_vertex_at o.tubes i ≡ vertex_start p d o.tubes i)
      × (first_triangle_at o.tubes i ≡ triangle_start p d o.tubes i)
      × CornersIn (vertex_start p d o.tubes i) (vertex_start p d o.tubes i + vertices p d (residues_at o.tubes i)) (corners_of p d o i)
  unfolding tube_fits own_corners
  tube_means i e =
      let v = vertex_start p d o.tubes i in
      let t = triangle_start p d o.tubes i in
      let b = and_both (record_fits o.tubes v t i) _ e in
      let r = record_means o.tubes v t i b.0 in
      (r.0, r.1, r.2, r.3, r.4, corners_mean v (v + vertices p d (residues_at o.tubes i)) (corners_of p d o i) b.1)

  pub consistent_means : consistent p d o c ≡ true → IsConsistent p d o c
  unfolding consistent_in tubes_fit
  consistent_means e =
      let a = and_both (not (tight c (sizes_of o))) _ e in
      let b = and_both (leb c.vertices 1048576) _ a.1 in
      let f = and_both (every (tube_fits p d o.tubes o.triangles) c.tubes) _ b.1 in
      let g = and_both (eqb (vertex_start p d o.tubes c.tubes) c.vertices) (eqb (triangle_start p d o.tubes c.tubes) c.triangles) f.1 in
      let t : (i : ℕ) → i < c.tubes → tube_fits p d o.tubes o.triangles i ≡ true =
      λ i h. every_takes (tube_fits p d o.tubes o.triangles) c.tubes i f.0 h in
      record {
        room = roomy c o (not-true (tight c (sizes_of o)) a.0);
        limit = leb-true c.vertices 1048576 b.0;
        kinds = λ i h. (tube_means i (t i h)).0;
        sizes = λ i h. ((tube_means i (t i h)).1, (tube_means i (t i h)).2);
        vertex_starts = λ i h. (tube_means i (t i h)).3;
        triangle_starts = λ i h. (tube_means i (t i h)).4;
        corners = λ i h. (tube_means i (t i h)).5;
        vertex_end = eqb-true (vertex_start p d o.tubes c.tubes) c.vertices g.0;
        triangle_end = eqb-true (triangle_start p d o.tubes c.tubes) c.triangles g.1;
      }

  means_tube : IsConsistent p d o c → (i : ℕ) → i < c.tubes → tube_fits p d o.tubes o.triangles i ≡ true
  unfolding tube_fits own_corners
  means_tube C i h =
      let v = vertex_start p d o.tubes i in
      let t = triangle_start p d o.tubes i in
      rw (
        means_record o.tubes v t i (C.kinds i h) (C.sizes i h).0 (C.sizes i h).1 (C.vertex_starts i h) (C.triangle_starts i h),
        mean_corners v (v + vertices p d (residues_at o.tubes i)) (corners_of p d o i) (C.corners i h),
      )

  pub means_consistent : IsConsistent p d o c → consistent p d o c ≡ true
  unfolding consistent_in tubes_fit
  means_consistent C =
      rw (
        not_tight c o C.room,
        le-leb c.vertices 1048576 C.limit,
        takes_every (tube_fits p d o.tubes o.triangles) c.tubes (means_tube C),
        eq-eqb (vertex_start p d o.tubes c.tubes) c.vertices C.vertex_end,
        eq-eqb (triangle_start p d o.tubes c.tubes) c.triangles C.triangle_end,
      )

  -- ---- what a reader of the mesh builds on

  -- every corner of the first T triangles is one of the V vertices: it stands in the part of one of the tubes, whose vertices are among them
  pub corner_below : consistent p d o c ≡ true → (j : ℕ) → j < 3 * c.triangles → get_or o.triangles j 0 < c.vertices
  corner_below e j h =
      let C = consistent_means e in
      let f : ℕ → ℕ = λ i. 3 * triangle_start p d o.tubes i in
      let w : ℕ → ℕ = λ i. 3 * triangles p d (residues_at o.tubes i) in
      let m : (i : ℕ) → f (i + 1) ≡ f i + w i = λ i. omega (arith, triangle_more p d o.tubes i) in
      let z : f 0 ≡ 0 = omega (arith, triangle_none p d o.tubes) in
      let r = part_of f w m z c.tubes j (omega (arith, C.triangle_end)) in
      let i = r.0 in
      let u = rising f w m (i + 1) c.tubes (omega (arith, r.1.0)) in
      let e : f i + (j - f i) ≡ j = omega (arith, r.1.1.0) in
      let at : get_or o.triangles j 0 ≡ get_or (corners_of p d o i) (j - f i) 0 =
      rw e at (part_place o.triangles (f i) (w i) (j - f i) 0 refl (omega (arith, r.1.1.1))) in
      let n : length (corners_of p d o i) ≡ w i =
      length-take-le (w i) (drop (f i) o.triangles) (omega (arith, length-drop (f i) o.triangles, u, m i, C.triangle_end, C.room.triangles)) in
      omega (
        arith,
        (C.corners i r.1.0 (j - f i) (omega (arith, n, r.1.1.1))).1,
        at,
        start_more p d o.tubes i,
        start_up p d o.tubes (i + 1) c.tubes (omega (arith, r.1.0)),
        C.vertex_end,
      )

-- a mesh of tubes has at most two triangles for each vertex, so their number is limited too
pub few_triangles : (o : Outs) (c : Counts) → consistent 8 8 o c ≡ true → c.triangles ≤ 2 * c.vertices
few_triangles o c e = let C = consistent_means 8 8 o c e in omega (arith, C.vertex_end, C.triangle_end, two_each o.tubes c.tubes)

pub triangle_limit : (o : Outs) (c : Counts) → consistent 8 8 o c ≡ true → c.triangles ≤ 2097152
triangle_limit o c e = omega (arith, few_triangles o c e, (consistent_means 8 8 o c e).limit)
