-- What is proved of 01's list of tubes, `tubes J G far`: of any job J with any segments G, and any test `far` of the step between two atoms. Assumes nothing.
use Prim.Native.Nat.{ℕ, ◌+◌, ◌*◌, ◌<◌, ◌≤◌}
use mathlib.Core.Bool.{Bool, true, false, ◌&&◌, and-false}
use mathlib.Core.List.{[], Memᴰ}
use mathlib.Core.Path.{◌≡◌, refl}
use native.Mathlib.Nat.{mul-le-mul}
use native.Mathlib.Omega.{arith}
use lib.ListN.{length, get_or}
use lib.Dec.{eqb, ltb}
use borrow.Author.Tests.{lt-ltb, ne_eqb}
use Rattle.tables.specs.Wants.{chain_of}
use Rattle.protein.specs.Job.{Job, Segments}
use Rattle.stretch.specs.Stretch.{range}
use Rattle.tubes.specs.declared.Source.{Source}
use Rattle.tubes.specs.declared.Source.TheVariants.{Coils, Segment}
use Rattle.tubes.specs.Tubes.{Tube, given, shown, coil_alpha, segment_alpha, frames, counts, covered, joins, segment_tube, segment_tubes, coil_tubes, tubes}
use Rattle.mesh.specs.Mesh.{size_of, vertex_sum, triangle_sum}
use Rattle.tube_theorems.specs.Listing.{Known, Proper, Before, Every, InOrder, frame_sum, SameCuts}
use Rattle.tube_theorems.proofs.Tubes.{every_map, every_member, tubes_proper}
use Rattle.tube_theorems.proofs.Order.{all_order, all_once}
use Rattle.tube_theorems.proofs.Sums.{segment_sum, coils_sum, tubes_frames, vertices_exact, triangles_exact, tubes_few}
use Rattle.tube_theorems.proofs.Ends.{covered_any, segment_placed, covered_some}
use Rattle.tube_theorems.proofs.Same.{all_same}

-- ---- each tube

module _ (J : Job) (G : Segments) (far : ℕ → ℕ → Bool) (u : Tube) (m : Memᴰ u (tubes J G far)) where
  -- consecutive residues of one chain, two at least, each a residue of the job with a C-alpha; no step too long; a segment's kind, or 0
  pub each_tube : Proper J G far u
  each_tube = every_member (Proper J G far) (tubes J G far) (tubes_proper J G far) u m

  -- 'n is .. 2 to 16,384'
  pub tube_size : J.residues ≤ 16384 → (2 ≤ size_of u) × (size_of u ≤ 16384)
  tube_size h = (each_tube.two, omega (arith, each_tube.most))

-- 'kind (0 coil, 1 helix, 2 sheet)': of the tubes of a job whose segments' kinds passed check 6
pub tube_kind : (J : Job) (G : Segments) (far : ℕ → ℕ → Bool) → ((i : ℕ) → i < G.count → G.kind i ≤ 2) → (u : Tube) → Memᴰ u (tubes J G far) → u.kind ≤ 2
tube_kind J G far few u m = go u.source u.kind (each_tube J G far u m).known
  where
    go : (source : Source) (kind : ℕ) → Known G source kind → kind ≤ 2
    go Coils kind k = omega arith
    go (Segment i g) kind k = omega (arith, k.2, few i k.0)

-- ---- the order

module _ (J : Job) (G : Segments) (far : ℕ → ℕ → Bool) where
  -- 'Visible segments come in job order .. Then coils'; the tubes of one segment, and the coils, by their first residues
  pub tubes_in_order : InOrder (Before G) (tubes J G far)
  tubes_in_order = all_order J G far

  -- no tube stands twice
  pub tubes_once : InOrder (λ u v. u ≡ v → ⊥) (tubes J G far)
  tubes_once = all_once J G far

-- ---- the sums

module _ (J : Job) (G : Segments) (far : ℕ → ℕ → Bool) where
  -- the tubes of one segment have at most R residues in all
  pub segment_frames : (i : ℕ) → frame_sum (segment_tubes J G far i) ≤ J.residues
  segment_frames = segment_sum J G far

  -- those of the coils at most 3R: a run of n residues gains two neighbours at most
  pub coil_frames : frame_sum (coil_tubes J (covered J G) far) ≤ 3 * J.residues
  coil_frames = coils_sum J G far (covered J G)

  all_two : Every (λ u. 2 ≤ size_of u) (tubes J G far)
  all_two = every_map _ _ (λ u p. p.two) (tubes J G far) (tubes_proper J G far)

  -- V and T of F frames in K tubes: V = 64F - 54K, T = 128F - 112K
  pub vertices_are : vertex_sum (tubes J G far) + 54 * length (tubes J G far) ≡ 64 * frame_sum (tubes J G far)
  vertices_are = vertices_exact (tubes J G far) all_two

  pub triangles_are : triangle_sum (tubes J G far) + 112 * length (tubes J G far) ≡ 128 * frame_sum (tubes J G far)
  triangles_are = triangles_exact (tubes J G far) all_two

  -- within the limits of a job the sums stay far below 2^64: K at most 2^30, V below 2^37, T = 2V - 4K
  pub sums_small : J.residues ≤ 16384 → G.count ≤ 65535
      → (length (tubes J G far) ≤ 1073741824) × ((vertex_sum (tubes J G far) < 137438953472) × (triangle_sum (tubes J G far) + 4 * length (tubes J G far) ≡ 2 * vertex_sum (tubes J G far)))
  sums_small r s =
      let f = tubes_frames J G far in
      let p : G.count * J.residues ≤ 65535 * 16384 = mul-le-mul s r in
      let k = tubes_few (tubes J G far) all_two in
      let v = vertices_are in
      let t = triangles_are in
      (omega arith, (omega arith, omega arith))

-- ---- what is covered

module _ (J : Job) (G : Segments) (r : ℕ) where
  -- 'A segment with fewer than two frames is skipped and covers nothing': what covers r is a segment of two frames or more that has a C-alpha of r
  pub covered_by : covered J G r ≡ true → (i : ℕ) × ((i < G.count) × ((2 ≤ length (frames J (range G i))) × (0 < segment_alpha J (range G i) r)))
  covered_by = covered_some J G r

  -- 'Otherwise all its frames become covered, even if hidden': nothing is asked of its chain
  pub covers : (i : ℕ) → r < J.residues → i < G.count → 2 ≤ length (frames J (range G i)) → 0 < segment_alpha J (range G i) r → covered J G r ≡ true
  covers i below l two h = covered_any J G r i below l two h

  -- 02 §10: 'a covered neighbour with no C-alpha position .. no accepted job has one'
  pub covered_placed : covered J G r ≡ true → 0 < coil_alpha J r
  covered_placed e = let s = covered_by e in segment_placed J (range G s.0) r s.1.1.1

  -- so that test decides nothing
  pub joins_plain : (to : ℕ) → joins J (covered J G) r to ≡ (ltb r J.residues && (covered J G r && eqb (chain_of J r) (chain_of J to)))
  unfolding joins
  joins_plain to = go (covered J G r) refl
    where
      go : (b : Bool) → covered J G r ≡ b
          → (ltb r J.residues && (b && (given (coil_alpha J r) && eqb (chain_of J r) (chain_of J to)))) ≡ (ltb r J.residues && (b && eqb (chain_of J r) (chain_of J to)))
      go true e = rw (ne_eqb (coil_alpha J r) 0 (λ z. omega (arith, covered_placed e)))
      go false e = refl

module _ (J : Job) (G : Segments) (far : ℕ → ℕ → Bool) (i : ℕ) where
  -- 'it is hidden when its first frame's chain is': a hidden segment gives no tube
  pub hidden_none : shown J (get_or (frames J (range G i)) 0 0) ≡ false → segment_tubes J G far i ≡ []
  unfolding segment_tube
  hidden_none e = rw (e, and-false (counts J (range G i)))

  -- 'A segment with fewer than two frames is skipped'
  pub short_none : length (frames J (range G i)) < 2 → segment_tubes J G far i ≡ []
  unfolding segment_tube counts
  short_none h = rw (lt-ltb (length (frames J (range G i))) 2 h)

-- ---- the coordinates

-- 02 §13: 'must tell only the cuts'
pub tubes_same : (J : Job) (G : Segments) (far far' : ℕ → ℕ → Bool) → SameCuts J G far far' → tubes J G far ≡ tubes J G far'
tubes_same = all_same
