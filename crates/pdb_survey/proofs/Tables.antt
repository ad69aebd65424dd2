-- The tables with one atom more. Assumes nothing.
use Prim.Native.Nat.{ℕ, zero, suc, ◌+◌, ◌-◌, ◌<◌, ◌≤◌}
use mathlib.Core.Bool.{Bool, true, false}
use mathlib.Core.Path.{◌≡◌, refl, sym, ap, ◌∙◌, subst}
use mathlib.Core.List.{List, [], ◌∷◌, ◌++◌}
use mathlib.Core.Logic.{⊎_elim}
use native.Mathlib.Nat.{eq-or-lt_of_le, le_of_suc-le-suc}
use native.Mathlib.Numerals.{add-one}
use native.Mathlib.Omega.{arith}
use lib.Dec.{eqb}
use lib.ListN.{length, get_or, set, length-set}
use lib.Seq.{get_or-set_same, get_or-set_other}
use borrow.Author.Tests.{eqb-true, eqb-false}
use Rattle.lists.specs.Search.{last}
use Rattle.appearance.specs.Order.{member, order, numbered}
use Rattle.appearance.specs.Index.{Index, Keyed, is_key}
use Rattle.lists.proofs.Searches.{last_taken}
use Rattle.appearance.proofs.Numbers.{found_number, keyed_member, keyed_number, keyed_seen, keyed_new, number_none, number_some, number_new, number_kept, number_other, count_seen, count_new}
use Rattle.pdb_records.specs.declared.AtomLine.{AtomLine}
use Rattle.pdb_file.specs.Reading.{names}
use Rattle.pdb_file.specs.Faults.{first_atom, last_atom, serial_in}
use Rattle.pdb_survey.specs.Tables.{Residues, Marks}
use Rattle.pdb_survey.proofs.Atoms.{names_more, first_kept, first_new, last_here, last_kept}

module _ (keys links ends : List ℕ) (n : ℕ) (l : List AtomLine) (a : AtomLine) (R : Residues keys links ends n l) where
  -- the residues of the list with this atom at its end
  abbrev more : List AtomLine
  more = l ++ (a ∷ [])

  number : last (is_key keys a.name) n ≡ numbered (names l) a.name
  number = found_number keys (names l) n a.name R.keyed

  old_member : (i : ℕ) → i < n → member (get_or keys i 0) (names l) ≡ true
  old_member i h = keyed_member keys n (names l) R.keyed i h

  module _ (p : ℕ) (e : last (is_key keys a.name) n ≡ suc p) (low : p < n) where
    seen : member a.name (names l) ≡ true
    seen = number_some (names l) a.name (omega (arith, number, e))

    -- the residue with this atom's name is p
    own : (i : ℕ) → i < n → a.name ≡ get_or keys i 0 → i ≡ p
    own i h q = omega (arith, e, sym (keyed_number keys n (names l) R.keyed i h) ∙ ap (numbered (names l)) (sym q) ∙ sym number)

    other : (i : ℕ) → i < n → (i ≡ p → ⊥) → a.name ≡ get_or keys i 0 → ⊥
    other i h d q = d (own i h q)

    named : a.name ≡ get_or keys p 0
    unfolding is_key
    named = sym (eqb-true (get_or keys p 0) a.name (last_taken (is_key keys a.name) n p e))

    at_last : (i : ℕ) → i < n → (b : Bool) → eqb i p ≡ b → get_or (set ends (16384 + p) a.serial) (16384 + i) 0 ≡ serial_in (last_atom (get_or keys i 0) more)
    at_last i h true q =
        let v : i ≡ p = eqb-true i p q in
        ap (λ (k : ℕ). get_or (set ends (16384 + p) a.serial) (16384 + k) 0) v
        ∙ get_or-set_same ends (16384 + p) a.serial 0 (omega (arith, R.size, R.index.few))
        ∙ sym (ap serial_in (ap (λ (k : ℕ). last_atom k more) (ap (λ (k : ℕ). get_or keys k 0) v ∙ sym named) ∙ last_here l a))
    at_last i h false q =
        let d = eqb-false i p q in
        get_or-set_other ends (16384 + p) (16384 + i) a.serial 0 (λ z. d (omega arith))
        ∙ R.last i h ∙ ap serial_in (sym (last_kept l a (get_or keys i 0) (other i h d)))

    pub atom_seen : Residues keys links (set ends (16384 + p) a.serial) n more
    atom_seen = record {
      index = R.index;
      keyed = subst (Keyed keys n) (sym (names_more l a)) (keyed_seen keys n (names l) a.name R.keyed seen);
      size = length-set ends (16384 + p) a.serial ∙ R.size;
      first = λ i h.
          get_or-set_other ends (16384 + p) i a.serial 0 (λ z. omega (arith, R.index.few)) ∙ R.first i h
          ∙ ap serial_in (sym (first_kept l a (get_or keys i 0) (old_member i h)));
      last = λ i h. at_last i h (eqb i p) refl;
    }

  module _ (none : last (is_key keys a.name) n ≡ 0) where
    new : member a.name (names l) ≡ false
    new = number_none (names l) a.name (sym number ∙ none)

    pub atom_full : n ≡ 16384 → 16384 < length (order (names more))
    atom_full f = rw (names_more l a) (omega (arith, count_new (names l) a.name new, R.keyed.count))

    module _ (few : n < 16384) (keys' links' : List ℕ) (ek : keys' ≡ set keys n a.name) (I : Index keys' links' (n + 1)) where
      ends' : List ℕ
      ends' = set (set ends n a.serial) (16384 + n) a.serial

      once : length (set ends n a.serial) ≡ 32768
      once = length-set ends n a.serial ∙ R.size

      key_old : (i : ℕ) → i < n → get_or keys' i 0 ≡ get_or keys i 0
      key_old i h = ap (λ (k : List ℕ). get_or k i 0) ek ∙ get_or-set_other keys n i a.name 0 (λ z. omega arith)

      key_new : get_or keys' n 0 ≡ a.name
      key_new = ap (λ (k : List ℕ). get_or k n 0) ek ∙ get_or-set_same keys n a.name 0 (omega (arith, R.index.keys_size))

      differs : (i : ℕ) → i < n → a.name ≡ get_or keys i 0 → ⊥
      differs i h q = let w : ◌≡◌ {A = Bool} true false = sym (old_member i h) ∙ ap (λ (k : ℕ). member k (names l)) (sym q) ∙ new in let u : ◌≡◌ {A = ℕ} 0 1 = cc in omega arith

      below : (i : ℕ) → i < n + 1 → eqb i n ≡ false → i < n
      below i h e = ⊎_elim (λ q. absurd (eqb-false i n e q)) (λ q. q) (eq-or-lt_of_le (le_of_suc-le-suc (subst (λ (k : ℕ). i < k) (add-one n) h)))

      first_at : (i : ℕ) → i < n + 1 → (b : Bool) → eqb i n ≡ b → get_or ends' i 0 ≡ serial_in (first_atom (get_or keys' i 0) more)
      unfolding ends'
      first_at i h true q =
          let z : i ≡ n = eqb-true i n q in
          subst (λ (k : ℕ). get_or ends' k 0 ≡ serial_in (first_atom (get_or keys' k 0) more)) (sym z)
          (get_or-set_other (set ends n a.serial) (16384 + n) n a.serial 0 (λ w. omega arith)
          ∙ get_or-set_same ends n a.serial 0 (omega (arith, R.size))
          ∙ sym (ap serial_in (ap (λ (k : ℕ). first_atom k more) key_new ∙ first_new l a new)))
      first_at i h false q =
          let b = below i h q in
          get_or-set_other (set ends n a.serial) (16384 + n) i a.serial 0 (λ w. omega arith)
          ∙ get_or-set_other ends n i a.serial 0 (λ w. omega arith)
          ∙ R.first i b ∙ ap serial_in (sym (ap (λ (k : ℕ). first_atom k more) (key_old i b) ∙ first_kept l a (get_or keys i 0) (old_member i b)))

      last_at : (i : ℕ) → i < n + 1 → (b : Bool) → eqb i n ≡ b → get_or ends' (16384 + i) 0 ≡ serial_in (last_atom (get_or keys' i 0) more)
      unfolding ends'
      last_at i h true q =
          let z : i ≡ n = eqb-true i n q in
          subst (λ (k : ℕ). get_or ends' (16384 + k) 0 ≡ serial_in (last_atom (get_or keys' k 0) more)) (sym z)
          (get_or-set_same (set ends n a.serial) (16384 + n) a.serial 0 (omega (arith, once))
          ∙ sym (ap serial_in (ap (λ (k : ℕ). last_atom k more) key_new ∙ last_here l a)))
      last_at i h false q =
          let b = below i h q in
          get_or-set_other (set ends n a.serial) (16384 + n) (16384 + i) a.serial 0 (λ w. omega arith)
          ∙ get_or-set_other ends n (16384 + i) a.serial 0 (λ w. omega arith)
          ∙ R.last i b ∙ ap serial_in (sym (ap (λ (k : ℕ). last_atom k more) (key_old i b) ∙ last_kept l a (get_or keys i 0) (differs i b)))

      pub atom_new : Residues keys' links' (set (set ends n a.serial) (16384 + n) a.serial) (n + 1) more
      unfolding ends'
      atom_new = record {
        index = I;
        keyed = subst (Keyed keys' (n + 1)) (sym (names_more l a))
            (subst (λ (k : List ℕ). Keyed k (n + 1) (names l ++ (a.name ∷ []))) (sym ek)
            (keyed_new keys n (names l) a.name R.keyed new (omega (arith, R.index.keys_size))));
        size = length-set (set ends n a.serial) (16384 + n) a.serial ∙ once;
        first = λ i h. first_at i h (eqb i n) refl;
        last = λ i h. last_at i h (eqb i n) refl;
      }

-- ---- chains
module _ (marks : List ℕ) (c : ℕ) (l : List ℕ) (x : ℕ) (M : Marks marks c l) (low : x < 256) where
  pub mark_seen : (get_or marks x 0 ≡ 0 → ⊥) → Marks marks c (l ++ (x ∷ []))
  mark_seen d =
      let m : member x l ≡ true = number_some l x (subst (λ (k : ℕ). 0 < k) (M.mark x low) (positive (get_or marks x 0) d)) in
      record {
        size = M.size;
        count = M.count ∙ sym (count_seen l x m);
        mark = λ y h. M.mark y h ∙ sym (same y m (eqb y x) refl);
      }
    where
      positive : (k : ℕ) → (k ≡ 0 → ⊥) → 0 < k
      positive zero d = absurd (d refl)
      positive (suc k) d = omega arith

      same : (y : ℕ) → member x l ≡ true → (b : Bool) → eqb y x ≡ b → numbered (l ++ (x ∷ [])) y ≡ numbered l y
      same y m true e = number_kept l x y (subst (λ (k : ℕ). member k l ≡ true) (sym (eqb-true y x e)) m)
      same y m false e = number_other l x y (eqb-false y x e)

  pub mark_new : get_or marks x 0 ≡ 0 → Marks (set marks x (c + 1)) (c + 1) (l ++ (x ∷ []))
  mark_new z =
      let m : member x l ≡ false = number_none l x (sym (M.mark x low) ∙ z) in
      record {
        size = length-set marks x (c + 1) ∙ M.size;
        count = ap (λ (k : ℕ). k + 1) M.count ∙ sym (count_new l x m);
        mark = λ y h. at y h m (eqb y x) refl;
      }
    where
      at : (y : ℕ) → y < 256 → member x l ≡ false → (b : Bool) → eqb y x ≡ b → get_or (set marks x (c + 1)) y 0 ≡ numbered (l ++ (x ∷ [])) y
      at y h m true e =
          let q : y ≡ x = eqb-true y x e in
          subst (λ (k : ℕ). get_or (set marks x (c + 1)) k 0 ≡ numbered (l ++ (x ∷ [])) k) (sym q)
          (get_or-set_same marks x (c + 1) 0 (omega (arith, M.size)) ∙ ap (λ (k : ℕ). k + 1) M.count ∙ sym (number_new l x m))
      at y h m false e = get_or-set_other marks x y (c + 1) 0 (eqb-false y x e) ∙ M.mark y h ∙ sym (number_other l x y (eqb-false y x e))
