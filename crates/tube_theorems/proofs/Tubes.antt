-- Every tube of a list is what its definition makes it. Assumes nothing.
use Prim.Native.Nat.{ℕ, zero, suc, ◌+◌, ◌-◌, ◌<◌, ◌≤◌}
use mathlib.Core.Bool.{Bool, true, false, cond, ◌&&◌}
use mathlib.Core.List.Memᴰ
use mathlib.Core.List.{List, [], ◌∷◌, ◌++◌, map, Memᴰ}
use mathlib.Core.Path.{◌≡◌, refl, sym, subst}
use mathlib.Core.Logic.{⊎_elim}
use native.Mathlib.Omega.{arith}
use lib.ListN.{length, get_or}
use lib.Dec.{ltb}
use borrow.Author.Tests.{ltb-true, ltb-false, eqb-true, eq-eqb}
use Rattle.tables.specs.Wants.{chain_of}
use Rattle.protein.specs.Job.{Job, Segments}
use Rattle.stretch.specs.Stretch.{range}
use Rattle.stretch.specs.declared.Range.{Range}
use Rattle.tubes.specs.Frames.{chosen}
use Rattle.tubes.specs.Lists.{Each, Consecutive}
use Rattle.tubes.specs.Pieces.{pieces, apart}
use Rattle.tubes.specs.Tubes.{Tube, given, shown, coil_alpha, segment_alpha, alpha_of, frames, counts, covered, gap, tube_of, tubes_of, run_tubes, segment_tube, segment_tubes, joined, loose, joins, extended, coil_tubes, tubes}
use Rattle.tubes.specs.declared.Source.{Source}
use Rattle.tubes.specs.declared.Source.TheVariants.{Coils, Segment}
use Rattle.tubes.proofs.Laws.{uncut_consecutive, uncut_chain, chosen_below, chosen_true, given_above}
use Rattle.mesh.specs.Mesh.{size_of}
use Rattle.tube_theorems.specs.Listing.{Known, Proper, EachList, Every}
use Rattle.tube_theorems.proofs.Linked.{Linked, linked_each, linked_neighbours, linked_from, linked_weak, pieces_linked, extended_linked}
use Rattle.lists.proofs.Bools.{and_left, and_right}

-- ---- P of every tube of a list

pub every_join : (P : Tube → Type 0) (us vs : List Tube) → Every P us → Every P vs → Every P (us ++ vs)
every_join P [] vs a b = b
every_join P (u ∷ us) vs a b = (a.0, every_join P us vs a.1 b)

pub every_map : (P Q : Tube → Type 0) → ((u : Tube) → P u → Q u) → (us : List Tube) → Every P us → Every Q us
every_map P Q f [] a = tt
every_map P Q f (u ∷ us) a = (f u a.0, every_map P Q f us a.1)

pub every_member : (P : Tube → Type 0) (us : List Tube) → Every P us → (u : Tube) → Memᴰ u us → P u
every_member P [] a u m = absurd (Memᴰ.not-nil m)
every_member P (v ∷ us) a u m = ⊎_elim (λ e. subst P (sym e) a.0) (λ n. every_member P us a.1 u n) (Memᴰ.cases_cons m)

pub each_map : (P Q : List ℕ → Type 0) → ((l : List ℕ) → P l → Q l) → (ls : List (List ℕ)) → EachList P ls → EachList Q ls
each_map P Q f [] a = tt
each_map P Q f (l ∷ ls) a = (f l a.0, each_map P Q f ls a.1)

-- ---- pieces give tubes of their source and kind, of two frames or more

pub record From (source : Source) (kind : ℕ) (P : List ℕ → Type 0) (u : Tube) : Type 0 where
  pub source_is : u.source ≡ source
  pub kind_is : u.kind ≡ kind
  pub two : 2 ≤ size_of u
  pub has : P u.residues

module _ (source : Source) (kind : ℕ) (P : List ℕ → Type 0) where
  tube_from : (p : List ℕ) → P p → Every (From source kind P) (tube_of source kind p)
  unfolding tube_of
  tube_from p a = go (ltb (length p) 2) refl
    where
      go : (b : Bool) → ltb (length p) 2 ≡ b → Every (From source kind P) (cond b [] (record { source = source; kind = kind; residues = p } ∷ []))
      go true e = tt
      go false e = (record { source_is = refl; kind_is = refl; two = ltb-false (length p) 2 e; has = a }, tt)

  tubes_from : (ps : List (List ℕ)) → EachList P ps → Every (From source kind P) (tubes_of source kind ps)
  unfolding tubes_of
  tubes_from [] a = tt
  tubes_from (p ∷ ps) a = every_join (From source kind P) (tube_of source kind p) (tubes_of source kind ps) (tube_from p a.0) (tubes_from ps a.1)

-- runs that are linked give tubes that are linked, with no gap between neighbours
pub runs_from : (source : Source) (kind : ℕ) (P : ℕ → Type 0) (S : ℕ → ℕ → Type 0) (cut : ℕ → ℕ → Bool) (rs : List (List ℕ)) → EachList (Linked P S) rs
    → Every (From source kind (Linked P (λ x y. S x y × (cut x y ≡ false)))) (run_tubes source kind cut rs)
unfolding run_tubes
runs_from source kind P S cut [] a = tt
runs_from source kind P S cut (r ∷ rs) a =
    every_join _ (tubes_of source kind (pieces cut r)) (run_tubes source kind cut rs)
    (tubes_from source kind _ (pieces cut r) (each_map _ _ (λ l b. b.1) (pieces cut r) (pieces_linked P S cut r a.0)))
    (runs_from source kind P S cut rs a.1)

-- ---- the tubes of one source

-- residue r is a residue of the job, with a C-alpha
abbrev Frame : Job → Source → ℕ → Type 0
Frame J source r = (r < J.residues) × (0 < alpha_of J source r)

abbrev Together : Job → ℕ → ℕ → Type 0
Together J x y = apart (chain_of J) x y ≡ false

abbrev Near : Job → (ℕ → ℕ → Bool) → Source → ℕ → ℕ → Type 0
Near J far source x y = Together J x y × (gap J far source x y ≡ false)

-- neighbours of one chain
together : (J : Job) (x y : ℕ) → y ≡ x + 1 → chain_of J y ≡ chain_of J x → Together J x y
unfolding apart
together J x y e c = rw (eq-eqb y (x + 1) e, eq-eqb (chain_of J y) (chain_of J x) c)

module _ (J : Job) where
  frames_linked : (i : ℕ) (g : Range) → Linked (Frame J (Segment i g)) (λ x y. Unit) (frames J g)
  unfolding frames alpha_of
  frames_linked i g =
      linked_from _ _ (frames J g)
      (λ k h. (chosen_below _ J.residues k h, given_above _ (chosen_true (λ r. given (segment_alpha J g r)) J.residues k h)))
      (λ k h. tt)

  -- any frames, cut into runs
  runs_linked : (P : ℕ → Type 0) (l : List ℕ) → Linked P (λ x y. Unit) l → EachList (λ r. (1 ≤ length r) × Linked P (Together J) r) (pieces (apart (chain_of J)) l)
  runs_linked P l a =
      each_map _ _ (λ r b. (b.0, linked_weak P (λ x y. Unit × Together J x y) (Together J) (λ x y s. s.1) r b.1)) (pieces (apart (chain_of J)) l)
      (pieces_linked P (λ x y. Unit) (apart (chain_of J)) l a)

  segment_runs : (i : ℕ) (g : Range) → EachList (Linked (Frame J (Segment i g)) (Together J)) (pieces (apart (chain_of J)) (frames J g))
  segment_runs i g = each_map _ _ (λ r b. b.1) (pieces (apart (chain_of J)) (frames J g)) (runs_linked (Frame J (Segment i g)) (frames J g) (frames_linked i g))

  module _ (cov : ℕ → Bool) where
    loose_linked : Linked (Frame J Coils) (λ x y. Unit) (chosen (loose J cov) J.residues)
    unfolding alpha_of loose
    loose_linked =
        linked_from _ _ (chosen (loose J cov) J.residues)
        (λ k h.
        let e = and_left _ _ (and_right (shown J _) _ (chosen_true (loose J cov) J.residues k h)) in
        (chosen_below _ J.residues k h, given_above _ e))
        (λ k h. tt)

    joins_frame : (r to : ℕ) → joins J cov r to ≡ true → Frame J Coils r × (chain_of J r ≡ chain_of J to)
    unfolding joins alpha_of
    joins_frame r to e =
        let a = and_right (ltb r J.residues) _ e in
        let b = and_right (cov r) _ a in
        ((ltb-true _ _ (and_left _ _ e), given_above _ (and_left _ _ b)), eqb-true _ _ (and_right (given (coil_alpha J r)) _ b))

    -- the runs of the coils, with the neighbours that join them
    coil_runs_lem : (rs : List (List ℕ)) → EachList (λ l. (1 ≤ length l) × Linked (Frame J Coils) (Together J) l) rs → EachList (Linked (Frame J Coils) (Together J)) (map (extended (joins J cov)) rs)
    coil_runs_lem [] a = tt
    coil_runs_lem (r ∷ rs) a = (
      extended_linked (Frame J Coils) (Frame J Coils) (Together J) (joins J cov) (λ x f. f)
          (λ x e f. let b = joins_frame x (suc x) e in (b.0, together J x (suc x) (omega arith) (sym b.1)))
          (λ z e f. let b = joins_frame (z + 1) z e in (b.0, together J z (z + 1) refl b.1))
          r a.0.0 a.0.1,
      coil_runs_lem rs a.1,
    )

  module _ (G : Segments) (far : ℕ → ℕ → Bool) where
    pub segment_from : (i : ℕ) → Every (From (Segment i (range G i)) (G.kind i) (Linked (Frame J (Segment i (range G i))) (Near J far (Segment i (range G i))))) (segment_tubes J G far i)
    unfolding segment_tube
    segment_from i = go (counts J (range G i) && shown J (get_or (frames J (range G i)) 0 0))
      where
        go : (b : Bool) → Every (From (Segment i (range G i)) (G.kind i) (Linked (Frame J (Segment i (range G i))) (Near J far (Segment i (range G i)))))
            (cond b (run_tubes (Segment i (range G i)) (G.kind i) (gap J far (Segment i (range G i))) (pieces (apart (chain_of J)) (frames J (range G i)))) [])
        go true = runs_from (Segment i (range G i)) (G.kind i) _ _ (gap J far (Segment i (range G i))) _ (segment_runs i (range G i))
        go false = tt

    pub coils_from_lem : (cov : ℕ → Bool) → Every (From Coils 0 (Linked (Frame J Coils) (Near J far Coils))) (coil_tubes J cov far)
    unfolding coil_tubes
    coils_from_lem cov =
        runs_from Coils 0 _ _ (gap J far Coils) _
        (coil_runs_lem cov (pieces (apart (chain_of J)) (chosen (loose J cov) J.residues)) (runs_linked (Frame J Coils) (chosen (loose J cov) J.residues) (loose_linked cov)))

    -- ---- what that says of each tube

    last_below : (l : List ℕ) → 2 ≤ length l → Consecutive l → Each (λ r. r < J.residues) l → length l ≤ J.residues
    last_below l h C B = let k : length l - 1 < length l = omega arith in omega (arith, C (length l - 1) k, B (length l - 1) k)

    proper : (source : Source) (kind : ℕ) → Known G source kind → (u : Tube) → From source kind (Linked (Frame J source) (Near J far source)) u → Proper J G far u
    proper source kind k u F =
        let E = linked_each _ _ u.residues F.has in
        let N = linked_neighbours _ _ u.residues F.has in
        let C = uncut_consecutive (chain_of J) u.residues (λ i h. (N i h).0) in
        let B : Each (λ r. r < J.residues) u.residues = λ i h. (E i h).0 in
        record {
          known = rw (F.source_is, F.kind_is) k;
          two = F.two;
          most = last_below u.residues F.two C B;
          below = B;
          consecutive = C;
          chain = uncut_chain (chain_of J) u.residues (λ i h. (N i h).0);
          placed = λ i h. rw F.source_is (E i h).1;
          near = λ i h. rw F.source_is (N i h).1;
        }

    segments_proper : (n : ℕ) → n ≤ G.count → Every (Proper J G far) (joined (segment_tubes J G far) n)
    unfolding joined
    segments_proper zero h = tt
    segments_proper (suc n) h =
        every_join _ (joined (segment_tubes J G far) n) (segment_tubes J G far n) (segments_proper n (omega arith))
        (every_map _ _ (proper (Segment n (range G n)) (G.kind n) (omega arith, refl, refl)) (segment_tubes J G far n) (segment_from n))

    pub tubes_proper : Every (Proper J G far) (tubes J G far)
    unfolding tubes
    tubes_proper =
        every_join _ (joined (segment_tubes J G far) G.count) (coil_tubes J (covered J G) far) (segments_proper G.count (omega arith))
        (every_map _ _ (proper Coils 0 refl) (coil_tubes J (covered J G) far) (coils_from_lem (covered J G)))
