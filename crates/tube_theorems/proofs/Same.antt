-- The list depends on the coordinates only by the cuts between neighbouring frames. Assumes nothing.
use Prim.Native.Nat.{ℕ, zero, suc, ◌<◌}
use mathlib.Core.Bool.{Bool}
use mathlib.Core.List.{List, [], ◌∷◌}
use mathlib.Core.Path.{◌≡◌, refl}
use native.Mathlib.Omega.{arith}
use Rattle.tables.specs.Wants.{chain_of}
use Rattle.protein.specs.Job.{Job, Segments}
use Rattle.stretch.specs.Stretch.{range}
use Rattle.tubes.specs.Pieces.{pieces, apart}
use Rattle.tubes.specs.Tubes.{Tube, frames, gap, run_tubes, segment_tube, segment_tubes, covered, joined, coil_tubes, tubes}
use Rattle.tubes.specs.declared.Source.{Source}
use Rattle.tubes.specs.declared.Source.TheVariants.{Coils, Segment}
use Rattle.tubes.proofs.Laws.{pieces_ext}
use Rattle.tube_theorems.specs.Listing.{Neighbours, EachList, coil_runs, SameCuts}
use Rattle.tube_theorems.proofs.Linked.{linked_from, linked_neighbours, pieces_linked}
use Rattle.tube_theorems.proofs.Tubes.{each_map}

runs_same : (source : Source) (kind : ℕ) (c d : ℕ → ℕ → Bool) (rs : List (List ℕ)) → EachList (Neighbours (λ x y. c x y ≡ d x y)) rs
    → run_tubes source kind c rs ≡ run_tubes source kind d rs
unfolding run_tubes
runs_same source kind c d [] a = refl
runs_same source kind c d (r ∷ rs) a = rw (pieces_ext c d r a.0, runs_same source kind c d rs a.1)

-- neighbours in a piece of a list are neighbours in the list
pieces_neighbours : (S : ℕ → ℕ → Type 0) (cut : ℕ → ℕ → Bool) (l : List ℕ) → Neighbours S l → EachList (Neighbours S) (pieces cut l)
pieces_neighbours S cut l a =
    each_map _ _ (λ p b i h. (linked_neighbours (λ x. Unit) _ p b.1 i h).0) (pieces cut l)
    (pieces_linked (λ x. Unit) S cut l (linked_from _ _ l (λ i h. tt) a))

joined_same : (f g : ℕ → List Tube) (n : ℕ) → ((i : ℕ) → i < n → f i ≡ g i) → joined f n ≡ joined g n
unfolding joined
joined_same f g zero h = refl
joined_same f g (suc n) h = rw (joined_same f g n (λ i l. h i (omega arith)), h n (omega arith))

module _ (J : Job) (G : Segments) (far far' : ℕ → ℕ → Bool) (same : SameCuts J G far far') where
  segment_same : (i : ℕ) → i < G.count → segment_tubes J G far i ≡ segment_tubes J G far' i
  unfolding segment_tube
  segment_same i h =
      let agree = pieces_neighbours (λ x y. gap J far (Segment i (range G i)) x y ≡ gap J far' (Segment i (range G i)) x y) (apart (chain_of J)) (frames J (range G i)) (same.segments i h) in
      let e = runs_same (Segment i (range G i)) (G.kind i) (gap J far (Segment i (range G i))) (gap J far' (Segment i (range G i))) (pieces (apart (chain_of J)) (frames J (range G i))) agree in
      rw e

  coils_same : coil_tubes J (covered J G) far ≡ coil_tubes J (covered J G) far'
  unfolding coil_tubes coil_runs
  coils_same = runs_same Coils 0 (gap J far Coils) (gap J far' Coils) (coil_runs J (covered J G)) same.coils

  pub all_same : tubes J G far ≡ tubes J G far'
  unfolding tubes
  all_same = rw (joined_same (segment_tubes J G far) (segment_tubes J G far') G.count segment_same, coils_same)
