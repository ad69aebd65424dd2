-- What the index finds is the key's number by first appearance. Assumes nothing.
use Prim.Native.Nat.{ℕ, zero, suc, ◌+◌, ◌<◌, ◌≤◌}
use mathlib.Core.Bool.{Bool, true, false, cond, ◌||◌}
use mathlib.Core.Path.{◌≡◌, refl, sym, ap, ◌∙◌, subst}
use mathlib.Core.List.{List, [], ◌∷◌, ◌++◌}
use mathlib.Core.Logic.{⊎_elim}
use native.Mathlib.Nat.{eq-or-lt_of_le, le_of_suc-le-suc}
use native.Mathlib.Numerals.{add-one}
use native.Mathlib.Omega.{arith}
use lib.Dec.{eqb}
use lib.ListN.{length, get_or, set, length-append, get_or-append}
use lib.Seq.{get_or-append_seam, get_or-set_same, get_or-set_other}
use borrow.Author.Tests.{eqb-true, eqb-false, eq-eqb, ne_eqb}
use Rattle.lists.specs.Search.{last}
use Rattle.lists.proofs.Searches.{last_same, last_up}
use Rattle.appearance.specs.Order.{member, place, add, distinct, order, numbered}
use Rattle.appearance.specs.Index.{is_key, Keyed}
use Rattle.appearance.proofs.Laws.{member_append, member_at, member_distinct, distinct_append, place_append, place_new}

-- a search of the whole list finds a key where it first stands
Once : List ℕ → Type 0
Once g = (x : ℕ) → last (is_key g x) (length g) ≡ cond (member x g) (suc (place x g)) 0

once_more : (g : List ℕ) (k : ℕ) → member k g ≡ false → Once g → Once (g ++ (k ∷ []))
unfolding Once last is_key member
once_more g k m h x = ap (last (is_key (g ++ (k ∷ [])) x)) long ∙ go (eqb k x) refl
  where
    long : length (g ++ (k ∷ [])) ≡ suc (length g)
    long = simp length-append (omega arith)

    same : last (is_key (g ++ (k ∷ [])) x) (length g) ≡ last (is_key g x) (length g)
    same = last_same (is_key (g ++ (k ∷ [])) x) (is_key g x) (length g) (λ i l. ap (λ (y : ℕ). eqb y x) (get_or-append g (k ∷ []) 0 i l))

    old : (b : Bool) → member x g ≡ b → eqb k x ≡ false → cond b (suc (place x g)) 0 ≡ cond (member x g || (eqb x k || false)) (suc (place x (g ++ (k ∷ [])))) 0
    old true e d = rw (e, place_append x g (k ∷ []) e)
    old false e d = rw (e, ne_eqb x k (λ q. eqb-false k x d (sym q)))

    go : (b : Bool) → eqb k x ≡ b → last (is_key (g ++ (k ∷ [])) x) (suc (length g)) ≡ cond (member x (g ++ (k ∷ []))) (suc (place x (g ++ (k ∷ [])))) 0
    go true e =
        let q : x ≡ k = sym (eqb-true k x e) in
        rw (get_or-append_seam g k [] 0, e, member_append x g (k ∷ []), q, m, eq-eqb k k refl, place_new k g [] m)
    go false e =
        let z = h x ∙ old (member x g) refl e in
        rw (get_or-append_seam g k [] 0, e, member_append x g (k ∷ [])) (same ∙ z)

once_distinct : (s l : List ℕ) → Once s → Once (distinct s l)
unfolding distinct
once_distinct s [] h = h
once_distinct s (x ∷ l) h = once_distinct (add s x) l (go (member x s) refl)
  where
    go : (b : Bool) → member x s ≡ b → Once (cond b s (s ++ (x ∷ [])))
    go true e = h
    go false e = once_more s x e h

once_order : (l : List ℕ) → Once (order l)
unfolding Once last member
once_order l = once_distinct [] l (λ x. refl)

-- what the index finds is the number counted from 1
pub found_number : (keys l : List ℕ) (n x : ℕ) → Keyed keys n l → last (is_key keys x) n ≡ numbered l x
unfolding is_key Once member numbered
found_number keys l n x K =
    last_same (is_key keys x) (is_key (order l) x) n (λ i h. ap (λ (y : ℕ). eqb y x) (K.key i h))
    ∙ ap (last (is_key (order l) x)) K.count ∙ once_order l x
    ∙ rw (member_distinct x [] l, add-one)

-- ---- each key has a number of its own
place_down : (g : List ℕ) (i : ℕ) → i < length g → place (get_or g i 0) g ≤ i
unfolding place
place_down [] i l = absurd (omega arith)
place_down (y ∷ g) zero l = rw (eq-eqb y y refl) (omega arith)
place_down (y ∷ g) (suc i) l = go (eqb (get_or g i 0) y) (place_down g i (omega arith))
  where
    go : (b : Bool) → place (get_or g i 0) g ≤ i → cond b 0 (suc (place (get_or g i 0) g)) ≤ suc i
    go true h = omega arith
    go false h = omega arith

module _ (keys : List ℕ) (n : ℕ) (l : List ℕ) (K : Keyed keys n l) (i : ℕ) (h : i < n) where
  inside : i < length (order l)
  inside = omega (arith, K.count)

  -- key i is one of the list's
  pub keyed_member : member (get_or keys i 0) l ≡ true
  unfolding member
  keyed_member =
      ap (λ (x : ℕ). member x l) (K.key i h) ∙ sym (member_distinct (get_or (order l) i 0) [] l) ∙ member_at (order l) i inside

  -- and its number is i
  pub keyed_number : numbered l (get_or keys i 0) ≡ i + 1
  unfolding numbered Once member is_key
  keyed_number =
      let x = get_or (order l) i 0 in
      let m : member x (order l) ≡ true = member_at (order l) i inside in
      let e : last (is_key (order l) x) (length (order l)) ≡ suc (place x (order l)) = once_order l x ∙ ap (λ (b : Bool). cond b (suc (place x (order l))) 0) m in
      let u : i < last (is_key (order l) x) (length (order l)) = last_up (is_key (order l) x) (length (order l)) i inside (eq-eqb x x refl) in
      let d : place x (order l) ≤ i = place_down (order l) i inside in
      ap (λ (b : Bool). cond b (place (get_or keys i 0) (order l) + 1) 0) keyed_member
      ∙ ap (λ (y : ℕ). place y (order l) + 1) (K.key i h) ∙ omega arith

-- ---- one key more at the end
module _ (l : List ℕ) (y : ℕ) where
  order_more : order (l ++ (y ∷ [])) ≡ add (order l) y
  unfolding distinct
  order_more = distinct_append [] l (y ∷ [])

  among : member y (order l) ≡ member y l
  unfolding member
  among = member_distinct y [] l

  order_seen : member y l ≡ true → order (l ++ (y ∷ [])) ≡ order l
  order_seen m = order_more ∙ ap (λ (b : Bool). cond b (order l) (order l ++ (y ∷ []))) (among ∙ m)

  order_new : member y l ≡ false → order (l ++ (y ∷ [])) ≡ order l ++ (y ∷ [])
  order_new m = order_more ∙ ap (λ (b : Bool). cond b (order l) (order l ++ (y ∷ []))) (among ∙ m)

  pub count_seen : member y l ≡ true → length (order (l ++ (y ∷ []))) ≡ length (order l)
  count_seen m = ap length (order_seen m)

  pub count_new : member y l ≡ false → length (order (l ++ (y ∷ []))) ≡ length (order l) + 1
  count_new m = ap length (order_new m) ∙ simp length-append

  pub number_new : member y l ≡ false → numbered (l ++ (y ∷ [])) y ≡ length (order l) + 1
  unfolding numbered member
  number_new m =
      rw (member_append y l (y ∷ []), m, eq-eqb y y refl, order_new m, place_new y (order l) [] (among ∙ m))

  module _ (x : ℕ) where
    member_more : member x (l ++ (y ∷ [])) ≡ (member x l || (eqb x y || false))
    unfolding member
    member_more = member_append x l (y ∷ [])

    -- a key that was there keeps its number, and so does one that is not y
    pub number_kept : member x l ≡ true → numbered (l ++ (y ∷ [])) x ≡ numbered l x
    unfolding numbered member
    number_kept m = rw (member_more, m) (ap (λ (k : ℕ). k + 1) (go (member y l) refl))
      where
        go : (b : Bool) → member y l ≡ b → place x (order (l ++ (y ∷ []))) ≡ place x (order l)
        go true q = ap (place x) (order_seen q)
        go false q = ap (place x) (order_new q) ∙ place_append x (order l) (y ∷ []) (member_distinct x [] l ∙ m)

    number_absent : (x ≡ y → ⊥) → member x l ≡ false → numbered (l ++ (y ∷ [])) x ≡ numbered l x
    unfolding numbered
    number_absent d m = rw (member_more, m, ne_eqb x y d)

    pub number_other : (x ≡ y → ⊥) → numbered (l ++ (y ∷ [])) x ≡ numbered l x
    number_other d = go (member x l) refl
      where
        go : (b : Bool) → member x l ≡ b → numbered (l ++ (y ∷ [])) x ≡ numbered l x
        go true m = number_kept m
        go false m = number_absent d m

-- whether a key appears, told by its number
pub number_none : (l : List ℕ) (x : ℕ) → numbered l x ≡ 0 → member x l ≡ false
unfolding numbered
number_none l x e = go (member x l) e
  where
    go : (b : Bool) → cond b (place x (order l) + 1) 0 ≡ 0 → b ≡ false
    go true q = absurd (omega arith)
    go false q = refl

pub number_some : (l : List ℕ) (x : ℕ) → 0 < numbered l x → member x l ≡ true
unfolding numbered
number_some l x e = go (member x l) e
  where
    go : (b : Bool) → 0 < cond b (place x (order l) + 1) 0 → b ≡ true
    go true q = refl
    go false q = absurd (omega arith)

pub number_is : (l : List ℕ) (x : ℕ) → member x l ≡ true → numbered l x ≡ place x (order l) + 1
unfolding numbered
number_is l x m = rw m

-- the keys of an index with one key more
module _ (keys : List ℕ) (n : ℕ) (l : List ℕ) (y : ℕ) (K : Keyed keys n l) where
  pub keyed_seen : member y l ≡ true → Keyed keys n (l ++ (y ∷ []))
  keyed_seen m = record {
    count = K.count ∙ sym (count_seen l y m);
    key = λ i h. K.key i h ∙ ap (λ (g : List ℕ). get_or g i 0) (sym (order_seen l y m));
  }

  pub keyed_new : member y l ≡ false → n < length keys → Keyed (set keys n y) (n + 1) (l ++ (y ∷ []))
  keyed_new m few = record {
    count = ap (λ (k : ℕ). k + 1) K.count ∙ sym (count_new l y m);
    key = λ i h. at i h (eqb i n) refl ∙ ap (λ (g : List ℕ). get_or g i 0) (sym (order_new l y m));
  }
    where
      at : (i : ℕ) → i < n + 1 → (b : Bool) → eqb i n ≡ b → get_or (set keys n y) i 0 ≡ get_or (order l ++ (y ∷ [])) i 0
      at i h true e =
          let q : i ≡ n = eqb-true i n e in
          subst (λ (k : ℕ). get_or (set keys n y) k 0 ≡ get_or (order l ++ (y ∷ [])) k 0) (sym q)
          (get_or-set_same keys n y 0 few ∙ sym (ap (λ (k : ℕ). get_or (order l ++ (y ∷ [])) k 0) K.count ∙ get_or-append_seam (order l) y [] 0))
      at i h false e =
          let d = eqb-false i n e in
          let b : i < n = ⊎_elim (λ q. absurd (d q)) (λ q. q) (eq-or-lt_of_le (le_of_suc-le-suc (subst (λ (k : ℕ). i < k) (add-one n) h))) in
          get_or-set_other keys n i y 0 d ∙ K.key i b ∙ sym (get_or-append (order l) (y ∷ []) 0 i (omega (arith, K.count)))
