-- The vertices of a mesh are those of its tubes; so two whole models, by their boxes. A box's sides are the only such numbers. Assumes nothing.
use Prim.Native.Nat.{ℕ, zero, suc, ◌+◌, ◌-◌, ◌*◌, ◌<◌, ◌≤◌}
use mathlib.Core.Bool.{Bool, true, false}
use mathlib.Core.List.{List, [], ◌∷◌}
use mathlib.Core.Path.{◌≡◌, refl, sym, ◌∙◌, ap}
use native.Mathlib.Omega.{arith}
use borrow.Author.Tests.{ltb-true, ltb-false}
use lib.Dec.{ltb}
use lib.Ieee.{Float, nan, lt, is_nan}
use lib.ListN.{length, get_or, take}
use Rattle.boxes.specs.Box.{along, foremost_of, more, least, greatest}
use Rattle.boxes.proofs.Boxes.{box_least, box_greatest, length_along, along_at}
use Rattle.boxes.proofs.Foremost.{Order, lt_order, more_order, only}
use Rattle.boxes.proofs.Standing.{Boxed, Touched}
use Rattle.lists.proofs.Any.{part_place}
use Rattle.edges.specs.Tube.{vertex_count}
use Rattle.tubes.specs.Tubes.{Tube}
use Rattle.mesh.specs.Mesh.{size_of, vertex_sum}
use Rattle.buffers.specs.declared.Counts.{Counts}
use Rattle.room.specs.Room.{Buffers}
use Rattle.std.specs.Prelude.{Ok}
use Rattle.promises.specs.Calls.{Builds}
use Rattle.promises.specs.Meshes.{tubes_in, TubeAt, vertices_for}
use Rattle.promises.specs.Boxes.{residues_of, first_vertex, VertexOf, coordinate, least_of, greatest_of, FirstOfEquals, Apart, Below}
use Rattle.promises.proofs.Answers.{meshed}
use Rattle.promises.proofs.Together as calls
use Rattle.promises.proofs.Boxes as boxes

-- ---- the vertices of a list of tubes

-- the first ones have no more than all
first_sum : (us : List Tube) (k : ℕ) → vertex_sum (take k us) ≤ vertex_sum us
unfolding vertex_sum
first_sum us zero = omega arith
first_sum [] (suc k) = omega arith
first_sum (u ∷ us) (suc k) = let r = first_sum us k in omega (arith, r)

-- tube k is where number j falls
abbrev Falls : List Tube → ℕ → Type 0
Falls us j = (k : ℕ) × (k < length us) × (vertex_sum (take k us) ≤ j) × (j < vertex_sum (take (suc k) us))

falls : (us : List Tube) (j : ℕ) → j < vertex_sum us → Falls us j
unfolding vertex_sum
falls [] j h = absurd (omega arith)
falls (u ∷ us) j h = go (ltb j n) refl (λ p. falls us (j - n) (omega (arith, p, h)))
  where
    n : ℕ
    n = vertex_count (size_of u)

    go : (t : Bool) → ltb j n ≡ t → (n ≤ j → Falls us (j - n)) → Falls (u ∷ us) j
    go true e f = (0, omega arith, omega arith, omega (arith, ltb-true j n e))
    go false e f = let p = ltb-false j n e in let r = f p in (suc r.0, omega (arith, r.1), omega (arith, p, r.2), omega (arith, p, r.3))

-- ---- the vertices of a mesh

module _ (s : List ℕ) (b b' : Buffers) (c : Counts) (B : Builds s b (Ok c) b') where
  vertices_are : c.vertices ≡ vertex_sum (tubes_in s)
  vertices_are = ap (λ (n : Counts). n.vertices) (meshed s b b' c B).counts

  -- where tube k begins and ends
  span : (k : ℕ) (u : Tube) → TubeAt (tubes_in s) k u → (first_vertex b'.outs k ≡ vertex_sum (take k (tubes_in s)))
      × (first_vertex b'.outs k + vertices_for (residues_of b'.outs k) ≡ vertex_sum (take (suc k) (tubes_in s)))
  span k u at =
      let S = calls.stands s b b' c k u B at in
      let f = boxes.first_is _ u k _ _ b'.outs S in
      (f, rw (f, boxes.residues_is _ u k _ _ b'.outs S) (sym (calls.next s k u at).0))

  pub in_mesh : (k j : ℕ) → k < c.tubes → VertexOf b'.outs k j → j < c.vertices
  in_mesh k j h J =
      let t = calls.there s b b' c B k h in
      omega (arith, J.below, (span k t.0 t.1).1, first_sum (tubes_in s) (suc k), vertices_are)

  pub has_tube : (j : ℕ) → j < c.vertices → (k : ℕ) × (k < c.tubes) × VertexOf b'.outs k j
  has_tube j h =
      let f = falls (tubes_in s) j (omega (arith, vertices_are)) in
      let k : f.0 < c.tubes = omega (arith, f.1, calls.long s b b' c B) in
      let t = calls.there s b b' c B f.0 k in
      let p = span f.0 t.0 t.1 in
      (f.0, k, record { from = omega (arith, f.2, p.0); below = omega (arith, f.3, p.1) })

-- ---- two models

pub apart : (s : List ℕ) (b b' : Buffers) (c : Counts) (t : List ℕ) (d d' : Buffers) (e : Counts) (i j a : ℕ)
    → Builds s b (Ok c) b' → Builds t d (Ok e) d' → a < 3
    → ((k m : ℕ) → k < c.tubes → m < e.tubes → Apart b'.outs k d'.outs m a)
    → i < c.vertices → j < e.vertices → Below (coordinate b'.outs i a) (coordinate d'.outs j a)
apart s b b' c t d d' e i j a B D axis A p q =
    let f = has_tube s b b' c B i p in
    let g = has_tube t d d' e D j q in
    boxes.apart s b b' c f.0 i t d d' e g.0 j a B f.1 D g.1 axis (A f.0 g.0 f.1 g.1) f.2 g.2

-- ---- the sides of a box, and no other numbers

module _ {xs P Q : List Float} {v m k : ℕ} (T : Boxed xs P Q v m k) (a : ℕ) (axis : a < 3) where
  along_is : (i : ℕ) → i < m → get_or (along a xs) i nan ≡ get_or P (3 * (v + i) + a) nan
  along_is i h =
      let e : 3 * v + (3 * i + a) ≡ 3 * (v + i) + a = omega arith in
      along_at xs m T.size a i h ∙ sym (rw e at (part_place P (3 * v) (3 * m) (3 * i + a) nan T.vertices (omega arith)))

  module _ (before : Float → Float → Bool) (o : Order before) (x : Float) where
    only_kept : is_nan (get_or P (3 * v + a) nan) ≡ false → is_nan x ≡ false → Touched P v m a x
        → ((j : ℕ) → v ≤ j → j < v + m → before (get_or P (3 * j + a) nan) x ≡ false) → x ≡ foremost_of before (along a xs)
    only_kept n q f h =
        let l = length_along xs m T.size a in
        let z : v + 0 ≡ v = omega arith in
        let i = f.0 - v in
        let at : v + i ≡ f.0 = omega (arith, f.1) in
        let below : i < m = omega (arith, f.1, f.2) in
        only before o (along a xs) x (rw (along_is 0 T.nonempty, z) n) q
        (i, rw l below, along_is i below ∙ rw at f.3, λ j r. rw (along_is j (omega (arith, below, r))) (f.4 (v + j) (omega arith) (omega (arith, at, r))))
        (λ j r. let r' : j < m = rw l at r in rw (along_is j r') (h (v + j) (omega arith) (omega (arith, r'))))

  low_is : get_or Q (6 * k + a) nan ≡ least (along a xs)
  low_is = part_place Q (6 * k) 6 a nan T.box (omega arith) ∙ box_least xs a axis

  high_is : get_or Q (6 * k + 3 + a) nan ≡ greatest (along a xs)
  high_is =
      let e : 6 * k + (3 + a) ≡ 6 * k + 3 + a = omega arith in
      rw e at (part_place Q (6 * k) 6 (3 + a) nan T.box (omega arith)) ∙ box_greatest xs a axis

pub only_such : (s : List ℕ) (b b' : Buffers) (c : Counts) (k a : ℕ) (x : Float) → Builds s b (Ok c) b' → k < c.tubes → a < 3
    → is_nan (coordinate b'.outs (first_vertex b'.outs k) a) ≡ false → is_nan x ≡ false → FirstOfEquals b'.outs k a x
    → (((j : ℕ) → VertexOf b'.outs k j → lt (coordinate b'.outs j a) x ≡ false) → x ≡ least_of b'.outs k a)
    × (((j : ℕ) → VertexOf b'.outs k j → lt x (coordinate b'.outs j a) ≡ false) → x ≡ greatest_of b'.outs k a)
only_such s b b' c k a x B h axis n q f =
    let T = (boxes.boxed s b b' c k B h).1 in
    let t : Touched b'.outs.positions (first_vertex b'.outs k) (vertices_for (residues_of b'.outs k)) a x =
    (f.at, f.vertex.from, f.vertex.below, f.same, λ i p l. f.earlier i (record { from = p; below = omega (arith, l, f.vertex.below) }) l) in (
      (λ g. only_kept T a axis lt lt_order x n q t (λ j p r. g j (record { from = p; below = r })) ∙ sym (low_is T a axis)),
      (λ g. only_kept T a axis more more_order x n q t (λ j p r. g j (record { from = p; below = r })) ∙ sym (high_is T a axis)),
    )
