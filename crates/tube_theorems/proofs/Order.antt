-- The tubes of a list stand in order: by source, and in one source by their first residues. So none stands twice. Assumes nothing.
use Prim.Native.Nat.{ℕ, zero, suc, ◌+◌, ◌-◌, ◌<◌, ◌≤◌}
use mathlib.Core.Bool.{Bool, true, false, cond, ◌&&◌, and-false}
use mathlib.Core.List.{List, [], ◌∷◌, ◌++◌, map, append-nil}
use mathlib.Core.Path.{◌≡◌, refl, sym, ◌∙◌, ap}
use mathlib.Core.Logic.{inl, inr, ⊎_elim}
use native.Mathlib.Nat.{eq-or-lt_of_le}
use native.Mathlib.Numerals.{add-one}
use native.Mathlib.Omega.{arith}
use lib.ListN.{length, get_or, length-append}
use lib.Dec.{ltb}
use borrow.Author.Tests.{ltb-false}
use Rattle.tables.specs.Wants.{chain_of}
use Rattle.protein.specs.Job.{Job, Segments}
use Rattle.stretch.specs.Stretch.{range}
use Rattle.tubes.specs.Frames.{chosen}
use Rattle.tubes.specs.Pieces.{glue, pieces, apart}
use Rattle.tubes.specs.Tubes.{Tube, given, shown, segment_alpha, frames, counts, covered, gap, tube_of, tubes_of, run_tubes, segment_tube, segment_tubes, joined, loose, leads, joins, extended, coil_tubes, tubes}
use Rattle.tubes.specs.declared.Source.{Source}
use Rattle.tubes.specs.declared.Source.TheVariants.{Coils, Segment}
use Rattle.mesh.specs.Mesh.{first_of}
use Rattle.tube_theorems.specs.Listing.{turn_of, Before, Every, InOrder}
use Rattle.tube_theorems.proofs.Linked.{Next, Linked, linked_map, last_of, last_is, extended_linked}
use Rattle.lists.proofs.Bools.{and_left, and_right}
use Rattle.tube_theorems.proofs.Tubes.{every_join, every_map, From, segment_from, coils_from_lem}

-- ---- lists of tubes in order

order_join : (B : Tube → Tube → Type 0) (us vs : List Tube) → InOrder B us → InOrder B vs → Every (λ u. Every (B u) vs) us → InOrder B (us ++ vs)
order_join B [] vs a b c = b
order_join B (u ∷ us) vs a b c = (every_join (B u) us vs a.0 c.0, order_join B us vs a.1 b c.1)

every_two : (P Q R : Tube → Type 0) → ((u : Tube) → P u → Q u → R u) → (us : List Tube) → Every P us → Every Q us → Every R us
every_two P Q R f [] a b = tt
every_two P Q R f (u ∷ us) a b = (f u a.0 b.0, every_two P Q R f us a.1 b.1)

order_map : (P : Tube → Type 0) (B C : Tube → Tube → Type 0) → ((u v : Tube) → P u → P v → B u v → C u v) → (us : List Tube) → Every P us → InOrder B us → InOrder C us
order_map P B C f [] p a = tt
order_map P B C f (u ∷ us) p a = (every_two P (B u) (C u) (λ v. f u v p.0) us p.1 a.0, order_map P B C f us p.1 a.1)

-- by the first residue
abbrev Earlier : Tube → Tube → Type 0
Earlier u v = first_of u < first_of v

-- ---- pieces one after the other

abbrev Less : ℕ → ℕ → Type 0
Less x y = x < y

-- numbers from lo on, ascending, with P of each
abbrev Rising : (ℕ → Type 0) → ℕ → List ℕ → Type 0
Rising P lo l = Linked (λ y. P y × (lo ≤ y)) Less l

abbrev last_in : List ℕ → ℕ
last_in [] = 0
last_in (x ∷ xs) = last_of x xs

-- lists that rise, each from the last number of the one before it on, or past it
Stacked : (ℕ → ℕ) → (ℕ → Type 0) → ℕ → List (List ℕ) → Type 0
Stacked past P lo [] = Unit
Stacked past P lo (p ∷ ps) = (1 ≤ length p) × (Rising P lo p × Stacked past P (past (last_in p)) ps)

rising_lower : (P : ℕ → Type 0) (lo hi : ℕ) → lo ≤ hi → (l : List ℕ) → Rising P hi l → Rising P lo l
rising_lower P lo hi h l a = linked_map _ _ Less (λ y b. (b.0, omega (arith, b.1))) l a

-- all that follows x is past x
rising_past : (P : ℕ → Type 0) (lo x : ℕ) (xs : List ℕ) → Next Less x xs → Rising P lo xs → Rising P (suc x) xs
rising_past P lo x [] n a = tt
rising_past P lo x (y ∷ ys) n a = ((a.0.0, n), (a.1.0, rising_lower P (suc x) (suc y) (omega arith) ys (rising_past P lo y ys a.1.0 a.1.1)))

pieces_stacked : (P : ℕ → Type 0) (cut : ℕ → ℕ → Bool) (lo : ℕ) (l : List ℕ) → Rising P lo l → Stacked suc P lo (pieces cut l)
unfolding pieces Stacked
pieces_stacked P cut lo [] a = tt
pieces_stacked P cut lo (x ∷ xs) a = go (pieces cut xs) (pieces_stacked P cut (suc x) xs (rising_past P lo x xs a.1.0 a.1.1))
  where
    grow : (p : List ℕ) (ps : List (List ℕ)) → Stacked suc P (suc x) (p ∷ ps) → Stacked suc P lo ((x ∷ p) ∷ ps)
    grow [] ps s = absurd (omega (arith, s.0))
    grow (y ∷ ys) ps s = (omega arith, ((a.0, (s.1.0.0.1, rising_lower P lo (suc x) (omega (arith, a.0.1)) (y ∷ ys) s.1.0)), s.1.1))

    put : (p : List ℕ) (ps : List (List ℕ)) → Stacked suc P (suc x) (p ∷ ps) → (b : Bool) → Stacked suc P lo (cond b ((x ∷ []) ∷ (p ∷ ps)) ((x ∷ p) ∷ ps))
    put p ps s true = (omega arith, ((a.0, (tt, tt)), s))
    put p ps s false = grow p ps s

    go : (ps : List (List ℕ)) → Stacked suc P (suc x) ps → Stacked suc P lo (glue cut x ps)
    go [] s = (omega arith, ((a.0, (tt, tt)), tt))
    go (p ∷ ps) s = put p ps s (cut x (get_or p 0 0))

-- ---- their tubes

rising_last : (P : ℕ → Type 0) (lo x : ℕ) (xs : List ℕ) → Rising P lo (x ∷ xs) → (x ≤ last_of x xs) × P (last_of x xs)
rising_last P lo x [] a = (omega arith, a.0.0)
rising_last P lo x (y ∷ ys) a = let b = rising_last P lo y ys a.1.1 in (omega (arith, b.0, a.1.0), b.1)

module _ (source : Source) (kind : ℕ) where
  -- a tube's first residue is below its last
  tube_within : (P : ℕ → Type 0) (lo : ℕ) (p : List ℕ) → Rising P lo p → Every (λ u. (lo ≤ first_of u) × (first_of u < last_in p)) (tube_of source kind p) × InOrder Earlier (tube_of source kind p)
  unfolding tube_of
  tube_within P lo p a = go (ltb (length p) 2) refl
    where
      ends : (l : List ℕ) → Rising P lo l → 2 ≤ length l → (lo ≤ get_or l 0 0) × (get_or l 0 0 < last_in l)
      ends [] r h = absurd (omega arith)
      ends (x ∷ []) r h = absurd (omega arith)
      ends (x ∷ y ∷ ys) r h = (r.0.1, omega (arith, r.1.0, (rising_last P lo y ys r.1.1).0))

      go : (b : Bool) → ltb (length p) 2 ≡ b
          → Every (λ u. (lo ≤ first_of u) × (first_of u < last_in p)) (cond b [] (record { source = source; kind = kind; residues = p } ∷ []))
          × InOrder Earlier (cond b [] (record { source = source; kind = kind; residues = p } ∷ []))
      go true e = (tt, tt)
      go false e = ((ends p a (ltb-false (length p) 2 e), tt), (tt, tt))

  -- two lists of tubes, the first below `mid` and the second from it on
  join_within : (lo mid : ℕ) (Q : ℕ → Type 0) (us vs : List Tube) → lo ≤ mid
      → Every (λ u. (lo ≤ first_of u) × (first_of u < mid)) us × InOrder Earlier us → Every (λ u. (mid ≤ first_of u) × Q (first_of u)) vs × InOrder Earlier vs
      → ((n : ℕ) → n < mid → Q n)
      → Every (λ u. (lo ≤ first_of u) × Q (first_of u)) (us ++ vs) × InOrder Earlier (us ++ vs)
  join_within lo mid Q us vs h a b q = (
    every_join _ us vs (every_map _ _ (λ u c. (c.0, q (first_of u) c.1)) us a.0) (every_map _ _ (λ u c. (omega (arith, c.0), c.1)) vs b.0),
    order_join Earlier us vs a.1 b.1 (every_map _ _ (λ u c. every_map _ _ (λ v d. omega (arith, c.1, d.0)) vs b.0) us a.0),
  )

  low_last : (P : ℕ → Type 0) (lo : ℕ) (p : List ℕ) → 1 ≤ length p → Rising P lo p → (lo ≤ last_in p) × P (last_in p)
  low_last P lo [] h a = absurd (omega arith)
  low_last P lo (x ∷ xs) h a = let b = rising_last P lo x xs a in (omega (arith, b.0, a.0.1), b.1)

  -- the tubes of the pieces of a run start below its last residue
  tubes_within : (lo hi : ℕ) (ps : List (List ℕ)) → Stacked suc (λ y. y ≤ hi) lo ps
      → Every (λ u. (lo ≤ first_of u) × (first_of u < hi)) (tubes_of source kind ps) × InOrder Earlier (tubes_of source kind ps)
  unfolding tubes_of Stacked
  tubes_within lo hi [] s = (tt, tt)
  tubes_within lo hi (p ∷ ps) s =
      let b = tubes_within (suc (last_in p)) hi ps s.1.1 in
      let l = low_last (λ y. y ≤ hi) lo p s.0 s.1.0 in
      join_within lo (last_in p) (λ n. n < hi) (tube_of source kind p) (tubes_of source kind ps) l.0 (tube_within (λ y. y ≤ hi) lo p s.1.0)
      (every_map _ _ (λ u c. (omega (arith, c.0), c.1)) (tubes_of source kind ps) b.0, b.1)
      (λ n h. omega (arith, l.1))

  below_last : (P : ℕ → Type 0) (lo : ℕ) (l : List ℕ) → Rising P lo l → Rising (λ y. y ≤ last_in l) lo l
  below_last P lo [] a = tt
  below_last P lo (x ∷ []) a = ((omega arith, a.0.1), (tt, tt))
  below_last P lo (x ∷ y ∷ ys) a = (((rising_last P lo x (y ∷ ys) a).0, a.0.1), (a.1.0, below_last P lo (y ∷ ys) a.1.1))

  runs_within : (past : ℕ → ℕ) → ((n : ℕ) → n ≤ past n) → (P : ℕ → Type 0) (cut : ℕ → ℕ → Bool) (lo : ℕ) (rs : List (List ℕ)) → Stacked past P lo rs
      → Every (λ u. (lo ≤ first_of u) × Unit) (run_tubes source kind cut rs) × InOrder Earlier (run_tubes source kind cut rs)
  unfolding run_tubes Stacked
  runs_within past g P cut lo [] s = (tt, tt)
  runs_within past g P cut lo (r ∷ rs) s =
      let b = runs_within past g P cut (past (last_in r)) rs s.1.1 in
      let t = tubes_within lo (last_in r) (pieces cut r) (pieces_stacked (λ y. y ≤ last_in r) cut lo r (below_last P lo r s.1.0)) in
      join_within lo (last_in r) (λ n. Unit) (tubes_of source kind (pieces cut r)) (run_tubes source kind cut rs) (low_last P lo r s.0 s.1.0).0 t
      (every_map _ _ (λ u c. (omega (arith, c.0, g (last_in r)), tt)) (run_tubes source kind cut rs) b.0, b.1)
      (λ n h. tt)

-- ---- the frames of a segment ascend, and so do the loose residues

rising_more : (p : ℕ → Bool) (n : ℕ) (l : List ℕ) → p n ≡ true → Linked (λ y. (p y ≡ true) × (y < n)) Less l → Linked (λ y. (p y ≡ true) × (y < suc n)) Less (l ++ (n ∷ []))
rising_more p n [] e a = ((e, omega arith), (tt, tt))
rising_more p n (x ∷ []) e a = ((a.0.0, omega (arith, a.0.1)), (a.0.1, ((e, omega arith), (tt, tt))))
rising_more p n (x ∷ y ∷ ys) e a = ((a.0.0, omega (arith, a.0.1)), (a.1.0, rising_more p n (y ∷ ys) e a.1.1))

chosen_linked : (p : ℕ → Bool) (n : ℕ) → Linked (λ y. (p y ≡ true) × (y < n)) Less (chosen p n)
unfolding chosen
chosen_linked p zero = tt
chosen_linked p (suc n) = go (chosen_linked p n) (p n) refl
  where
    go : Linked (λ y. (p y ≡ true) × (y < n)) Less (chosen p n) → (b : Bool) → p n ≡ b → Linked (λ y. (p y ≡ true) × (y < suc n)) Less (chosen p n ++ cond b (n ∷ []) [])
    go a true e = rising_more p n (chosen p n) e a
    go a false e = rw append-nil (linked_map _ _ Less (λ y c. (c.0, omega (arith, c.1))) (chosen p n) a)

chosen_rising : (p : ℕ → Bool) (n : ℕ) → Rising (λ y. p y ≡ true) 0 (chosen p n)
chosen_rising p n = linked_map _ _ Less (λ y c. (c.0, omega arith)) (chosen p n) (chosen_linked p n)

module _ (J : Job) (G : Segments) (far : ℕ → ℕ → Bool) where
  segment_order : (i : ℕ) → InOrder Earlier (segment_tubes J G far i)
  unfolding segment_tube frames
  segment_order i = go (counts J (range G i) && shown J (get_or (frames J (range G i)) 0 0))
    where
      go : (b : Bool) → InOrder Earlier (cond b (run_tubes (Segment i (range G i)) (G.kind i) (gap J far (Segment i (range G i))) (pieces (apart (chain_of J)) (frames J (range G i)))) [])
      go true =
          (runs_within (Segment i (range G i)) (G.kind i) suc (λ n. omega arith) _ (gap J far (Segment i (range G i))) 0 _
          (pieces_stacked (λ y. given (segment_alpha J (range G i) y) ≡ true) (apart (chain_of J)) 0 _ (chosen_rising (λ r. given (segment_alpha J (range G i) r)) J.residues))).1
      go false = tt

-- ---- a run with its neighbours ends before the next begins

last_more : (l : List ℕ) (v : ℕ) → last_in (l ++ (v ∷ [])) ≡ v
last_more [] v = refl
last_more (x ∷ []) v = refl
last_more (x ∷ y ∷ ys) v = last_more (y ∷ ys) v

last_after : (l : List ℕ) (x : ℕ) (xs : List ℕ) → last_in (l ++ (x ∷ xs)) ≡ last_of x xs
last_after [] x xs = refl
last_after (a ∷ []) x xs = refl
last_after (a ∷ b ∷ l) x xs = last_after (b ∷ l) x xs

extended_last : (join : ℕ → ℕ → Bool) (x : ℕ) (xs : List ℕ) → last_in (extended join (x ∷ xs)) ≡ cond (join (last_of x xs + 1) (last_of x xs)) (last_of x xs + 1) (last_of x xs)
unfolding extended
extended_last join x xs = rw (last_is x xs) (go (join (last_of x xs + 1) (last_of x xs)))
  where
    go : (b : Bool) → last_in ((cond (leads join x) ((x - 1) ∷ []) [] ++ (x ∷ xs)) ++ cond b ((last_of x xs + 1) ∷ []) []) ≡ cond b (last_of x xs + 1) (last_of x xs)
    go true = last_more (cond (leads join x) ((x - 1) ∷ []) [] ++ (x ∷ xs)) (last_of x xs + 1)
    go false = ap last_in (append-nil (cond (leads join x) ((x - 1) ∷ []) [] ++ (x ∷ xs))) ∙ last_after (cond (leads join x) ((x - 1) ∷ []) []) x xs

extended_some : (join : ℕ → ℕ → Bool) (x : ℕ) (xs : List ℕ) → 1 ≤ length (extended join (x ∷ xs))
unfolding extended
extended_some join x xs = simp length-append (omega arith)

module _ (J : Job) (cov : ℕ → Bool) where
  abbrev Loose : ℕ → Type 0
  Loose y = loose J cov y ≡ true

  -- a residue that joins a run is covered, so it is not loose
  joined_not : (r to : ℕ) → joins J cov r to ≡ true → loose J cov r ≡ false
  unfolding joins loose
  joined_not r to e =
      let c : cov r ≡ true = and_left _ _ (and_right (ltb r J.residues) _ e) in
      rw c (simp and-false)

  raise : (lo : ℕ) (rs : List (List ℕ)) → loose J cov lo ≡ false → Stacked suc Loose lo rs → Stacked suc Loose (suc lo) rs
  unfolding Stacked
  raise lo [] n s = tt
  raise lo (p ∷ ps) n s = (s.0, (linked_map _ _ Less (λ y c. (c.0, past y c.0 c.1)) p s.1.0, s.1.1))
    where
      past : (y : ℕ) → loose J cov y ≡ true → lo ≤ y → suc lo ≤ y
      past y e h = ⊎_elim (λ q. let f : loose J cov y ≡ false = rw (← q) n in let z : ◌≡◌ {A = ℕ} 0 1 = cc in absurd (omega arith)) (λ l. l) (eq-or-lt_of_le h)

  runs_stacked : (rs : List (List ℕ)) (low lo : ℕ) → low ≤ lo - 1 → Stacked suc Loose lo rs → Stacked (λ n. n) (λ y. Unit) low (map (extended (joins J cov)) rs)
  unfolding Stacked
  runs_stacked [] low lo h s = tt
  runs_stacked ([] ∷ rs) low lo h s = absurd (omega (arith, s.0))
  runs_stacked ((x ∷ xs) ∷ rs) low lo h s = (
    extended_some (joins J cov) x xs,
    (
      rising,
      rw (extended_last (joins J cov) x xs) (rest (runs_stacked rs) (joins J cov (last_of x xs + 1) (last_of x xs)) refl),
    ),
  )
    where
      rising : Rising (λ y. Unit) low (extended (joins J cov) (x ∷ xs))
      rising =
          extended_linked (λ y. Loose y × (lo ≤ y)) (λ y. Unit × (low ≤ y)) Less (joins J cov) (λ y c. (tt, omega (arith, c.1)))
          (λ r e c. ((tt, omega (arith, c.1)), omega arith)) (λ z e c. ((tt, omega (arith, c.1)), omega arith)) (x ∷ xs) s.0 s.1.0

      rest : ((low lo : ℕ) → low ≤ lo - 1 → Stacked suc Loose lo rs → Stacked (λ n. n) (λ y. Unit) low (map (extended (joins J cov)) rs))
          → (b : Bool) → joins J cov (last_of x xs + 1) (last_of x xs) ≡ b → Stacked (λ n. n) (λ y. Unit) (cond b (last_of x xs + 1) (last_of x xs)) (map (extended (joins J cov)) rs)
      rest all true e =
          let n : loose J cov (suc (last_of x xs)) ≡ false = rw add-one at (joined_not (last_of x xs + 1) (last_of x xs) e) in
          all (last_of x xs + 1) (suc (suc (last_of x xs))) (omega arith) (raise (suc (last_of x xs)) rs n s.1.1)
      rest all false e = all (last_of x xs) (suc (last_of x xs)) (omega arith) s.1.1

  module _ (far : ℕ → ℕ → Bool) where
    coils_order : InOrder Earlier (coil_tubes J cov far)
    unfolding coil_tubes
    coils_order =
        (runs_within Coils 0 (λ n. n) (λ n. omega arith) (λ y. Unit) (gap J far Coils) 0 _
        (runs_stacked _ 0 0 (omega arith) (pieces_stacked Loose (apart (chain_of J)) 0 _ (chosen_rising (loose J cov) J.residues)))).1

module _ (J : Job) (G : Segments) (far : ℕ → ℕ → Bool) where
  -- ---- all tubes: the order of sources, and then this

  by_source : (source : Source) (kind : ℕ) (P : List ℕ → Type 0) (us : List Tube) → Every (From source kind P) us → InOrder Earlier us → InOrder (Before G) us
  by_source source kind P us a b = order_map (From source kind P) Earlier (Before G) (λ u v p q e. inr (p.source_is ∙ sym q.source_is, e)) us a b

  segments_turns : (n : ℕ) → Every (λ u. turn_of G u < n) (joined (segment_tubes J G far) n)
  unfolding joined
  segments_turns zero = tt
  segments_turns (suc n) =
      every_join _ (joined (segment_tubes J G far) n) (segment_tubes J G far n) (every_map _ _ (λ u h. omega (arith, h)) (joined (segment_tubes J G far) n) (segments_turns n))
      (every_map _ _ (λ u f. rw f.source_is (omega arith)) (segment_tubes J G far n) (segment_from J G far n))

  segments_order : (n : ℕ) → InOrder (Before G) (joined (segment_tubes J G far) n)
  unfolding joined
  segments_order zero = tt
  segments_order (suc n) =
      order_join (Before G) (joined (segment_tubes J G far) n) (segment_tubes J G far n) (segments_order n)
      (by_source (Segment n (range G n)) (G.kind n) _ (segment_tubes J G far n) (segment_from J G far n) (segment_order J G far n))
      (every_map _ _ (λ u h. every_map _ _ (λ v f. inl (rw f.source_is h)) (segment_tubes J G far n) (segment_from J G far n)) (joined (segment_tubes J G far) n) (segments_turns n))

  pub all_order : InOrder (Before G) (tubes J G far)
  unfolding tubes
  all_order =
      order_join (Before G) (joined (segment_tubes J G far) G.count) (coil_tubes J (covered J G) far) (segments_order G.count)
      (by_source Coils 0 _ (coil_tubes J (covered J G) far) (coils_from_lem J G far (covered J G)) (coils_order J (covered J G) far))
      (every_map _ _ (λ u h. every_map _ _ (λ v f. inl (rw f.source_is h)) (coil_tubes J (covered J G) far) (coils_from_lem J G far (covered J G))) (joined (segment_tubes J G far) G.count) (segments_turns G.count))

  -- what stands before a tube is not that tube
  pub all_once : InOrder (λ u v. u ≡ v → ⊥) (tubes J G far)
  all_once = order_map (λ u. Unit) (Before G) (λ u v. u ≡ v → ⊥) (λ u v p q b e. ⊎_elim (λ l. omega (arith, ap (turn_of G) e)) (λ l. omega (arith, l.1, ap first_of e)) b) (tubes J G far) (all (tubes J G far)) all_order
    where
      all : (us : List Tube) → Every (λ u. Unit) us
      all [] = tt
      all (u ∷ us) = (tt, all us)
