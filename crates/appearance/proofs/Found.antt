-- Laws of the index: that it finds a key, and what one key more does to it. Assumes nothing.
use Prim.Native.Nat.{ℕ, suc, ◌+◌, ◌-◌, ◌<◌, ◌≤◌}
use mathlib.Core.Bool.{Bool, true, false}
use mathlib.Core.Path.{◌≡◌, refl, sym, ap, ◌∙◌, subst}
use mathlib.Core.List.{List}
use mathlib.Core.Logic.{⊎_elim}
use native.Mathlib.Nat.{eq-or-lt_of_le, le_of_suc-le-suc}
use native.Mathlib.Numerals.{add-one}
use native.Mathlib.Omega.{arith}
use lib.Dec.{eqb}
use lib.ListN.{length, get_or, set, length-set}
use lib.Seq.{get_or-set_same, get_or-set_other}
use borrow.Author.Tests.{eqb-true, eqb-false, eq-eqb, ne_eqb}
use Rattle.lists.specs.Search.{last}
use Rattle.lists.proofs.Searches.{last_le, last_taken, last_same, last_through}
use Rattle.appearance.specs.Index.{slot, is_key, in_slot, Index}

-- ---- a walk along a slot
-- no key x stands at or above p, and the key before p is of x's slot
pub record Walked (keys : List ℕ) (x n p : ℕ) : Type 0 where
  pub below : p ≤ n
  pub above : last (is_key keys x) n ≡ last (is_key keys x) p
  pub same : (i : ℕ) → p ≡ suc i → slot (get_or keys i 0) ≡ slot x

other_slot : (keys : List ℕ) (x i : ℕ) → in_slot keys (slot x) i ≡ false → is_key keys x i ≡ false
unfolding in_slot is_key
other_slot keys x i e = ne_eqb (get_or keys i 0) x (λ q. eqb-false (slot (get_or keys i 0)) (slot x) e (ap slot q))

walked_from : (keys : List ℕ) (x n m p : ℕ) → p ≡ last (in_slot keys (slot x)) m → m ≤ n → last (is_key keys x) n ≡ last (is_key keys x) m → Walked keys x n p
unfolding in_slot
walked_from keys x n m p e l a = record {
  below = omega (arith, last_le (in_slot keys (slot x)) m);
  above = a ∙ last_through (is_key keys x) (in_slot keys (slot x)) (other_slot keys x) m ∙ ap (last (is_key keys x)) (sym e);
  same = λ i q. eqb-true (slot (get_or keys i 0)) (slot x) (last_taken (in_slot keys (slot x)) m i (sym e ∙ q));
}

module _ (keys links : List ℕ) (x n : ℕ) (I : Index keys links n) where
  pub walked_start : slot x < 16384 → (h p : ℕ) → h ≡ slot x → p ≡ get_or links h 0 → Walked keys x n p
  walked_start l h p eh ep = walked_from keys x n n p (ep ∙ ap (λ (k : ℕ). get_or links k 0) eh ∙ I.head (slot x) l) (omega arith) refl

  module _ (p : ℕ) (W : Walked keys x n p) where
    pub walked_none : p ≤ 0 → 0 ≡ last (is_key keys x) n
    unfolding last
    walked_none h =
        let z : p ≡ 0 = omega arith in
        sym (W.above ∙ ap (last (is_key keys x)) z)

    pub walked_here : 0 < p → get_or keys (p - 1) 0 ≡ x → p ≡ last (is_key keys x) n
    unfolding last is_key
    walked_here h e =
        let z : p ≡ suc (p - 1) = omega arith in
        z ∙ sym (W.above ∙ ap (last (is_key keys x)) z ∙ simp (eq-eqb (get_or keys (p - 1) 0) x e))

    pub walked_on : 0 < p → (get_or keys (p - 1) 0 ≡ x → ⊥) → (p' : ℕ) → p' ≡ get_or links (16383 + p) 0 → (Walked keys x n p') × (p' < p)
    unfolding last is_key
    walked_on h d p' e =
        let z : p ≡ suc (p - 1) = omega arith in
        let k : 16383 + p ≡ 16384 + (p - 1) = omega arith in
        let q : p' ≡ last (in_slot keys (slot (get_or keys (p - 1) 0))) (p - 1)
        = e ∙ ap (λ (j : ℕ). get_or links j 0) k ∙ I.link (p - 1) (omega (arith, W.below)) in (
          walked_from keys x n (p - 1) p' (q ∙ ap (λ (s : ℕ). last (in_slot keys s) (p - 1)) (W.same (p - 1) z)) (omega (arith, W.below))
              (W.above ∙ ap (last (is_key keys x)) z ∙ simp (ne_eqb (get_or keys (p - 1) 0) x d)),
          omega (arith, last_le (in_slot keys (slot (get_or keys (p - 1) 0))) (p - 1)),
        )

-- ---- one key more
module _ (keys links : List ℕ) (n x : ℕ) (I : Index keys links n) (few : n < 16384) (h : ℕ) (eh : h ≡ slot x) (low : h < 16384) where
  abbrev keys' : List ℕ
  keys' = set keys n x

  abbrev links' : List ℕ
  links' = set (set links (16384 + n) (get_or links h 0)) h (n + 1)

  kept : (i : ℕ) → i < n → get_or keys' i 0 ≡ get_or keys i 0
  kept i l = get_or-set_other keys n i x 0 (λ e. omega arith)

  new : get_or keys' n 0 ≡ x
  new = get_or-set_same keys n x 0 (omega (arith, I.keys_size))

  same_slots : (s m : ℕ) → m ≤ n → last (in_slot keys s) m ≡ last (in_slot keys' s) m
  unfolding in_slot
  same_slots s m l = last_same (in_slot keys s) (in_slot keys' s) m (λ i b. ap (λ (k : ℕ). eqb (slot k) s) (sym (kept i (omega arith))))

  longer : length (set links (16384 + n) (get_or links h 0)) ≡ 32768
  longer = length-set links (16384 + n) (get_or links h 0) ∙ I.links_size

  head_more : (s : ℕ) → s < 16384 → (b : Bool) → eqb s h ≡ b → get_or links' s 0 ≡ last (in_slot keys' s) (n + 1)
  unfolding last in_slot
  head_more s l true e =
      let q : s ≡ h = eqb-true s h e in
      subst (λ (k : ℕ). get_or links' k 0 ≡ last (in_slot keys' k) (n + 1)) (sym q)
      (get_or-set_same (set links (16384 + n) (get_or links h 0)) h (n + 1) 0 (omega (arith, longer))
      ∙ rw (add-one, new, eq-eqb (slot x) h (sym eh)))
  head_more s l false e =
      let d = eqb-false s h e in
      get_or-set_other (set links (16384 + n) (get_or links h 0)) h s (n + 1) 0 d
      ∙ get_or-set_other links (16384 + n) s (get_or links h 0) 0 (λ z. omega arith)
      ∙ I.head s l ∙ same_slots s n (omega arith)
      ∙ rw (add-one, new, ne_eqb (slot x) s (λ z. d (sym z ∙ sym eh)))

  link_more : (i : ℕ) → i < n + 1 → (b : Bool) → eqb i n ≡ b → get_or links' (16384 + i) 0 ≡ last (in_slot keys' (slot (get_or keys' i 0))) i
  link_more i l true e =
      let q : i ≡ n = eqb-true i n e in
      subst (λ (k : ℕ). get_or links' (16384 + k) 0 ≡ last (in_slot keys' (slot (get_or keys' k 0))) k) (sym q)
      (get_or-set_other (set links (16384 + n) (get_or links h 0)) h (16384 + n) (n + 1) 0 (λ z. omega arith)
      ∙ get_or-set_same links (16384 + n) (get_or links h 0) 0 (omega (arith, I.links_size))
      ∙ I.head h low ∙ same_slots h n (omega arith)
      ∙ ap (λ (s : ℕ). last (in_slot keys' s) n) (eh ∙ ap slot (sym new)))
  link_more i l false e =
      let d = eqb-false i n e in
      let b : i < n = ⊎_elim (λ q. absurd (d q)) (λ q. q) (eq-or-lt_of_le (le_of_suc-le-suc (subst (λ (k : ℕ). i < k) (add-one n) l))) in
      get_or-set_other (set links (16384 + n) (get_or links h 0)) h (16384 + i) (n + 1) 0 (λ z. omega arith)
      ∙ get_or-set_other links (16384 + n) (16384 + i) (get_or links h 0) 0 (λ z. d (omega arith))
      ∙ I.link i b
      ∙ ap (λ (k : ℕ). last (in_slot keys (slot k)) i) (sym (kept i b))
      ∙ same_slots (slot (get_or keys' i 0)) i (omega arith)

  pub entered : Index (set keys n x) (set (set links (16384 + n) (get_or links h 0)) h (n + 1)) (n + 1)
  entered = record {
    keys_size = length-set keys n x ∙ I.keys_size;
    links_size = length-set (set links (16384 + n) (get_or links h 0)) h (n + 1) ∙ longer;
    few = omega arith;
    head = λ s l. head_more s l (eqb s h) refl;
    link = λ i l. link_more i l (eqb i n) refl;
  }
