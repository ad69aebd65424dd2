-- Laws of the definition: of a record, of corners, of the running sums, and of the buffers. Assumes nothing.
use Prim.Native.Nat.{ℕ, zero, suc, ◌+◌, ◌*◌, ◌-◌, ◌%◌, ◌<◌, ◌≤◌}
use mathlib.Core.Bool.{Bool, true, false, cond, ◌&&◌, and-true, and-false}
use mathlib.Core.List.{List, [], ◌∷◌}
use mathlib.Core.Logic.{⊎_elim}
use mathlib.Core.Path.{◌≡◌, refl, sym, ap, ◌∙◌}
use native.Mathlib.Nat.{add-zero, eq-or-lt_of_le, le_of_suc-le-suc}
use native.Mathlib.Omega.{arith}
use native.Mathlib.Numerals.{add-one}
use lib.ListN.{length, get_or}
use lib.Dec.{eqb, ltb, leb}
use borrow.Author.Tests.{lt-ltb, le-leb, lt-leb, eq-eqb, ne_eqb, ltb-true, ltb-false, leb-true, leb-false, le-ltb, eqb-true}
use Rattle.lists.specs.Search.{every}
use Rattle.lists.proofs.Bools.{and_both, or_left, or_rest}
use Rattle.lists.proofs.Searches.{every_none, every_takes, takes_every}
use Rattle.lists.specs.Put.{upto}
use Rattle.buffers.specs.declared.Counts.{Counts}
use Rattle.buffers.specs.Outs.{Sizes, tight}
use Rattle.edges.specs.Sound.{CornersIn}
use Rattle.edges.specs.Tube.{vertices, triangles, vertex_total, triangle_total, vertex_count, triangle_count}
use Rattle.edges.proofs.Count.{lt_or_le}
use Rattle.edges.proofs.Theorems.{no_tube, vertex_count_lem, triangle_count_lem, mesh_totals}
use Rattle.consistency.specs.Consistent.{kind_at, residues_at, first_vertex_at, first_triangle_at, record_fits, corners_in, residues_to, vertex_start, triangle_start, tubes_fit, consistent_in}

-- ---- a record: which test it fails by
module _ (tubes : List ℕ) (v t i : ℕ) where
  pub kind_out : 2 < kind_at tubes i → record_fits tubes v t i ≡ false
  unfolding record_fits
  kind_out h = rw (lt-leb (kind_at tubes i) 2 h)

  pub size_under : kind_at tubes i ≤ 2 → residues_at tubes i < 2 → record_fits tubes v t i ≡ false
  unfolding record_fits
  size_under k h = rw (le-leb (kind_at tubes i) 2 k, lt-leb 2 (residues_at tubes i) h)

  pub size_over : kind_at tubes i ≤ 2 → 2 ≤ residues_at tubes i → 16384 < residues_at tubes i → record_fits tubes v t i ≡ false
  unfolding record_fits
  size_over k l h = rw (le-leb (kind_at tubes i) 2 k, le-leb 2 (residues_at tubes i) l, lt-leb (residues_at tubes i) 16384 h)

  pub vertex_off : kind_at tubes i ≤ 2 → 2 ≤ residues_at tubes i → residues_at tubes i ≤ 16384 → (first_vertex_at tubes i ≡ v → ⊥) → record_fits tubes v t i ≡ false
  unfolding record_fits
  vertex_off k l m h = rw (le-leb (kind_at tubes i) 2 k, le-leb 2 (residues_at tubes i) l, le-leb (residues_at tubes i) 16384 m, ne_eqb (first_vertex_at tubes i) v h)

  -- past the other tests it is the first triangle that decides
  pub by_triangle : kind_at tubes i ≤ 2 → 2 ≤ residues_at tubes i → residues_at tubes i ≤ 16384 → first_vertex_at tubes i ≡ v → record_fits tubes v t i ≡ eqb (first_triangle_at tubes i) t
  unfolding record_fits
  by_triangle k l m h = rw (le-leb (kind_at tubes i) 2 k, le-leb 2 (residues_at tubes i) l, le-leb (residues_at tubes i) 16384 m, eq-eqb (first_vertex_at tubes i) v h)

  -- what it means where it fits
  pub record_means : record_fits tubes v t i ≡ true
      → (kind_at tubes i ≤ 2) × (2 ≤ residues_at tubes i) × (residues_at tubes i ≤ 16384) × (first_vertex_at tubes i ≡ v) × (first_triangle_at tubes i ≡ t)
  unfolding record_fits
  record_means e =
      let a = and_both (leb (kind_at tubes i) 2) _ e in
      let b = and_both (leb 2 (residues_at tubes i)) _ a.1 in
      let c = and_both (leb (residues_at tubes i) 16384) _ b.1 in
      let g = and_both (eqb (first_vertex_at tubes i) v) (eqb (first_triangle_at tubes i) t) c.1 in (
        leb-true (kind_at tubes i) 2 a.0,
        leb-true 2 (residues_at tubes i) b.0,
        leb-true (residues_at tubes i) 16384 c.0,
        eqb-true (first_vertex_at tubes i) v g.0,
        eqb-true (first_triangle_at tubes i) t g.1,
      )

  pub means_record : kind_at tubes i ≤ 2 → 2 ≤ residues_at tubes i → residues_at tubes i ≤ 16384 → first_vertex_at tubes i ≡ v → first_triangle_at tubes i ≡ t
      → record_fits tubes v t i ≡ true
  means_record k l m h e = by_triangle k l m h ∙ eq-eqb (first_triangle_at tubes i) t e

-- ---- corners: the test of one, by name, since the loop over them says it of those behind it
unfoldable pub between : ℕ → ℕ → List ℕ → ℕ → Bool
between o v l j = leb o (get_or l j 0) && ltb (get_or l j 0) v

module _ (o v : ℕ) (l : List ℕ) where
  -- the test and the rule of edges/specs/Sound say the same
  pub corners_mean : corners_in o v l ≡ true → CornersIn o v l
  unfolding corners_in
  corners_mean e j h =
      let b = and_both (leb o (get_or l j 0)) (ltb (get_or l j 0) v) (every_takes (λ (j : ℕ). leb o (get_or l j 0) && ltb (get_or l j 0) v) (length l) j e h) in
      (leb-true o (get_or l j 0) b.0, ltb-true (get_or l j 0) v b.1)

  pub mean_corners : CornersIn o v l → corners_in o v l ≡ true
  unfolding corners_in
  mean_corners r =
      takes_every (λ (j : ℕ). leb o (get_or l j 0) && ltb (get_or l j 0) v) (length l)
      (λ j h. rw (le-leb o (get_or l j 0) (r j h).0, lt-ltb (get_or l j 0) v (r j h).1))

-- ---- the running sums

-- sums that grow by w: they never fall, and each number below the sum of k parts is in one of the parts
module _ (f w : ℕ → ℕ) (more : (i : ℕ) → f (i + 1) ≡ f i + w i) where
  pub rising : (i k : ℕ) → i ≤ k → f i ≤ f k
  rising i zero h = let z : i ≡ 0 = omega arith in rw z (omega arith)
  rising i (suc k) h =
      ⊎_elim
      (λ q. rw q (omega arith))
      (λ m. let e : f (suc k) ≡ f k + w k = ap f (sym (add-one k)) ∙ more k in omega (arith, rising i k (le_of_suc-le-suc m), e))
      (eq-or-lt_of_le h)

  pub part_of : f 0 ≡ 0 → (k j : ℕ) → j < f k → (i : ℕ) × ((i < k) × ((f i ≤ j) × (j < f i + w i)))
  part_of z zero j h = absurd (omega (arith, z))
  part_of z (suc k) j h =
      ⊎_elim
      (λ m. let r = part_of z k j m in (r.0, (omega (arith, r.1.0), r.1.1)))
      (λ m. let e : f (suc k) ≡ f k + w k = ap f (sym (add-one k)) ∙ more k in (k, (omega arith, (m, omega (arith, e)))))
      (lt_or_le j (f k))

module _ (p d : ℕ) (tubes : List ℕ) where
  pub start_none : vertex_start p d tubes 0 ≡ 0
  unfolding vertex_start residues_to upto vertex_total
  start_none = refl

  pub triangle_none : triangle_start p d tubes 0 ≡ 0
  unfolding triangle_start residues_to upto triangle_total
  triangle_none = refl

  -- one tube more
  pub start_more : (i : ℕ) → vertex_start p d tubes (i + 1) ≡ vertex_start p d tubes i + vertices p d (residues_at tubes i)
  unfolding vertex_start residues_to upto vertex_total
  start_more i = rw add-one ((mesh_totals p d (residues_to tubes i) (residues_at tubes i ∷ [])).0 ∙ ap (λ (n : ℕ). vertex_start p d tubes i + n) (add-zero (vertices p d (residues_at tubes i))))

  pub triangle_more : (i : ℕ) → triangle_start p d tubes (i + 1) ≡ triangle_start p d tubes i + triangles p d (residues_at tubes i)
  unfolding triangle_start residues_to upto triangle_total
  triangle_more i = rw add-one ((mesh_totals p d (residues_to tubes i) (residues_at tubes i ∷ [])).1 ∙ ap (λ (n : ℕ). triangle_start p d tubes i + n) (add-zero (triangles p d (residues_at tubes i))))

  -- no tube starts before one that it follows
  pub start_up : (i k : ℕ) → i ≤ k → vertex_start p d tubes i ≤ vertex_start p d tubes k
  start_up i k h = rising (vertex_start p d tubes) (λ (j : ℕ). vertices p d (residues_at tubes j)) start_more i k h

  pub triangle_up : (i k : ℕ) → i ≤ k → triangle_start p d tubes i ≤ triangle_start p d tubes k
  triangle_up i k h = rising (triangle_start p d tubes) (λ (j : ℕ). triangles p d (residues_at tubes j)) triangle_more i k h

-- at most two triangles for each vertex
two_of : (n : ℕ) → triangle_count n ≤ 2 * vertex_count n
two_of n =
    ⊎_elim
    (λ h. omega (arith, (no_tube 8 8 0 n h).1, (no_tube 8 8 0 n h).2))
    (λ h. omega (arith, vertex_count_lem n h, triangle_count_lem n h))
    (lt_or_le n 2)

pub two_each : (tubes : List ℕ) (k : ℕ) → triangle_start 8 8 tubes k ≤ 2 * vertex_start 8 8 tubes k
two_each tubes zero = omega (arith, start_none 8 8 tubes, triangle_none 8 8 tubes)
two_each tubes (suc k) = rw (← add-one k) (omega (arith, start_more 8 8 tubes k, triangle_more 8 8 tubes k, two_each tubes k, two_of (residues_at tubes k)))

-- ---- the buffers: which test they fail by, of which sizes nothing else is known
module _ (p d : ℕ) (s : Sizes) (tubes corners : List ℕ) (c : Counts) where
  pub tight_lost : tight c s ≡ true → consistent_in p d s tubes corners c ≡ false
  unfolding consistent_in
  tight_lost e = rw e

  pub limit_lost : tight c s ≡ false → 1048576 < c.vertices → consistent_in p d s tubes corners c ≡ false
  unfolding consistent_in
  limit_lost e h = rw (e, lt-leb c.vertices 1048576 h)

  pub by_tubes : tight c s ≡ false → c.vertices ≤ 1048576 → consistent_in p d s tubes corners c ≡ tubes_fit p d tubes corners c
  unfolding consistent_in
  by_tubes e h = rw (e, le-leb c.vertices 1048576 h)

-- room in the two buffers that are looked at
pub looked_at : (c : Counts) (s : Sizes) → tight c s ≡ false → (5 * c.tubes ≤ s.tubes) × (3 * c.triangles ≤ s.triangles)
unfolding tight
looked_at c s e =
    let e1 = or_rest (ltb s.positions (3 * c.vertices)) _ e in
    let e2 = or_rest (ltb s.normals (3 * c.vertices)) _ e1 in
    let e3 = or_rest (ltb s.tags c.vertices) _ e2 in
    let e4 = or_rest (ltb s.triangles (3 * c.triangles)) _ e3 in
    (ltb-false s.tubes (5 * c.tubes) (or_left (ltb s.tubes (5 * c.tubes)) _ e4), ltb-false s.triangles (3 * c.triangles) (or_left (ltb s.triangles (3 * c.triangles)) _ e3))

-- ---- a corner's distance from a vertex, as words count

-- below `low` it is at least all that is left of the words behind it
pub near : (c low span : ℕ) → c < 4294967296 → low + span ≤ 4294967296 → (c + 4294967296 - low) % 4294967296 < span → (leb low c && ltb c (low + span)) ≡ true
near c low span w h l = go (leb low c) refl
  where
    go : (b : Bool) → leb low c ≡ b → (b && ltb c (low + span)) ≡ true
    go true e = let k = leb-true low c e in lt-ltb c (low + span) (omega arith)
    go false e = let k = leb-false low c e in absurd (omega arith)

pub far : (c low span : ℕ) → c < 4294967296 → low + span ≤ 4294967296 → span ≤ (c + 4294967296 - low) % 4294967296 → (leb low c && ltb c (low + span)) ≡ false
far c low span w h l = go (leb low c) refl
  where
    go : (b : Bool) → leb low c ≡ b → (b && ltb c (low + span)) ≡ false
    go true e = let k = leb-true low c e in le-ltb c (low + span) (omega arith)
    go false e = refl

-- ---- corners that are not among so many vertices, counted

-- none is lost yet
pub lost_none : (o v : ℕ) (l : List ℕ) → every (between o v l) 0 ≡ eqb 0 0
lost_none o v l = every_none (between o v l)

pub lost_more : (o v : ℕ) (l : List ℕ) (i lost : ℕ) → every (between o v l) i ≡ eqb lost 0
    → every (between o v l) (i + 1) ≡ eqb (lost + cond (leb o (get_or l i 0) && ltb (get_or l i 0) v) 0 1) 0
unfolding every between
lost_more o v l i lost e = rw (add-one, e) (go (leb o (get_or l i 0) && ltb (get_or l i 0) v))
  where
    go : (b : Bool) → (eqb lost 0 && b) ≡ eqb (lost + cond b 0 1) 0
    go true = let e : lost ≡ lost + 0 = omega arith in and-true (eqb lost 0) ∙ ap (λ (n : ℕ). eqb n 0) e
    go false = and-false (eqb lost 0) ∙ sym (ne_eqb (lost + 1) 0 (λ q. omega arith))

pub corners_are_lem : (o v : ℕ) (l : List ℕ) → every (between o v l) (length l) ≡ corners_in o v l
unfolding corners_in between
corners_are_lem o v l = refl
