-- How many frames a list of tubes has, and so how many vertices and triangles. Assumes nothing.
use Prim.Native.Nat.{ℕ, zero, suc, ◌+◌, ◌*◌, ◌≤◌}
use mathlib.Core.Bool.{Bool, true, false, cond, ◌&&◌}
use mathlib.Core.List.{List, [], ◌∷◌, ◌++◌, map}
use mathlib.Core.Path.{◌≡◌}
use native.Mathlib.Nat.{suc-mul}
use native.Mathlib.Omega.{arith}
use lib.ListN.{length, get_or}
use lib.Dec.{ltb}
use Rattle.tables.specs.Wants.{chain_of}
use Rattle.protein.specs.Job.{Job, Segments}
use Rattle.stretch.specs.Stretch.{range}
use Rattle.tubes.specs.Frames.{chosen}
use Rattle.tubes.specs.Pieces.{pieces, apart}
use Rattle.tubes.specs.Tubes.{Tube, given, segment_alpha, shown, frames, counts, gap, tube_of, tubes_of, run_tubes, segment_tube, segment_tubes, covered, joined, loose, joins, extended, coil_tubes, tubes}
use Rattle.tubes.specs.declared.Source.{Source}
use Rattle.tubes.specs.declared.Source.TheVariants.{Coils, Segment}
use Rattle.tubes.proofs.Laws.{chosen_length, frame_count, pieces_count}
use Rattle.coils.proofs.Laws.{extended_few}
use Rattle.edges.proofs.Theorems.{vertex_count_lem, triangle_count_lem}
use Rattle.mesh.specs.Mesh.{size_of, vertex_sum, triangle_sum}
use Rattle.tube_theorems.specs.Listing.{Every, frame_sum, EachList}
use Rattle.tube_theorems.proofs.Linked.{linked_from, pieces_linked}
use Rattle.tube_theorems.proofs.Tubes.{each_map}

-- ---- frames

sum_join : (us vs : List Tube) → frame_sum (us ++ vs) ≡ frame_sum us + frame_sum vs
unfolding frame_sum
sum_join [] vs = omega arith
sum_join (u ∷ us) vs = omega (arith, sum_join us vs)

module _ (source : Source) (kind : ℕ) where
  tube_sum : (p : List ℕ) → frame_sum (tube_of source kind p) ≤ length p
  unfolding frame_sum tube_of
  tube_sum p = go (ltb (length p) 2)
    where
      go : (b : Bool) → frame_sum (cond b [] (record { source = source; kind = kind; residues = p } ∷ [])) ≤ length p
      go true = omega arith
      go false = omega arith

  tubes_sum : (ps : List (List ℕ)) → frame_sum (tubes_of source kind ps) ≤ frame_count ps
  unfolding frame_sum tubes_of frame_count
  tubes_sum [] = omega arith
  tubes_sum (p ∷ ps) = omega (arith, sum_join (tube_of source kind p) (tubes_of source kind ps), tube_sum p, tubes_sum ps)

  runs_sum : (cut : ℕ → ℕ → Bool) (rs : List (List ℕ)) → frame_sum (run_tubes source kind cut rs) ≤ frame_count rs
  unfolding frame_sum run_tubes frame_count
  runs_sum cut [] = omega arith
  runs_sum cut (r ∷ rs) = omega (arith, sum_join (tubes_of source kind (pieces cut r)) (run_tubes source kind cut rs), tubes_sum (pieces cut r), pieces_count cut r, runs_sum cut rs)

-- at most two more for each run, and a run has one at least
extended_sizes : (join : ℕ → ℕ → Bool) (rs : List (List ℕ)) → EachList (λ r. 1 ≤ length r) rs → frame_count (map (extended join) rs) ≤ 3 * frame_count rs
unfolding frame_count
extended_sizes join [] a = omega arith
extended_sizes join (r ∷ rs) a = omega (arith, a.0, extended_few join r, extended_sizes join rs a.1)

pieces_some : (cut : ℕ → ℕ → Bool) (l : List ℕ) → EachList (λ r. 1 ≤ length r) (pieces cut l)
pieces_some cut l = each_map _ _ (λ r b. b.0) (pieces cut l) (pieces_linked (λ x. Unit) (λ x y. Unit) cut l (linked_from _ _ l (λ i h. tt) (λ i h. tt)))

module _ (J : Job) (G : Segments) (far : ℕ → ℕ → Bool) where
  pub segment_sum : (i : ℕ) → frame_sum (segment_tubes J G far i) ≤ J.residues
  unfolding segment_tube frames frame_sum
  segment_sum i = go (counts J (range G i) && shown J (get_or (frames J (range G i)) 0 0))
    where
      go : (b : Bool) → frame_sum (cond b (run_tubes (Segment i (range G i)) (G.kind i) (gap J far (Segment i (range G i))) (pieces (apart (chain_of J)) (frames J (range G i)))) []) ≤ J.residues
      go true =
          omega (
            arith,
            runs_sum (Segment i (range G i)) (G.kind i) (gap J far (Segment i (range G i))) (pieces (apart (chain_of J)) (frames J (range G i))),
            pieces_count (apart (chain_of J)) (frames J (range G i)),
            chosen_length (λ r. given (segment_alpha J (range G i) r)) J.residues,
          )
      go false = omega arith

  pub coils_sum : (cov : ℕ → Bool) → frame_sum (coil_tubes J cov far) ≤ 3 * J.residues
  unfolding coil_tubes
  coils_sum cov =
      let l = chosen (loose J cov) J.residues in
      let rs = pieces (apart (chain_of J)) l in
      omega (arith, runs_sum Coils 0 (gap J far Coils) (map (extended (joins J cov)) rs), extended_sizes (joins J cov) rs (pieces_some _ l), pieces_count (apart (chain_of J)) l, chosen_length (loose J cov) J.residues)

  segments_sum : (n : ℕ) → frame_sum (joined (segment_tubes J G far) n) ≤ n * J.residues
  unfolding joined frame_sum
  segments_sum zero = omega arith
  segments_sum (suc n) = omega (arith, sum_join (joined (segment_tubes J G far) n) (segment_tubes J G far n), segments_sum n, segment_sum n, suc-mul n J.residues)

  pub tubes_frames : frame_sum (tubes J G far) ≤ G.count * J.residues + 3 * J.residues
  unfolding tubes
  tubes_frames = omega (arith, sum_join (joined (segment_tubes J G far) G.count) (coil_tubes J (covered J G) far), segments_sum G.count, coils_sum (covered J G))

-- ---- vertices and triangles: 64 and 128 a frame, but for 54 and 112 a tube

pub vertices_exact : (us : List Tube) → Every (λ u. 2 ≤ size_of u) us → vertex_sum us + 54 * length us ≡ 64 * frame_sum us
unfolding vertex_sum frame_sum
vertices_exact [] a = omega arith
vertices_exact (u ∷ us) a = omega (arith, a.0, vertex_count_lem (size_of u) a.0, vertices_exact us a.1)

pub triangles_exact : (us : List Tube) → Every (λ u. 2 ≤ size_of u) us → triangle_sum us + 112 * length us ≡ 128 * frame_sum us
unfolding triangle_sum frame_sum
triangles_exact [] a = omega arith
triangles_exact (u ∷ us) a = omega (arith, a.0, triangle_count_lem (size_of u) a.0, triangles_exact us a.1)

pub tubes_few : (us : List Tube) → Every (λ u. 2 ≤ size_of u) us → 2 * length us ≤ frame_sum us
unfolding frame_sum
tubes_few [] a = omega arith
tubes_few (u ∷ us) a = omega (arith, a.0, tubes_few us a.1)
