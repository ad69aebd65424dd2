-- Laws of `Filled`, the tables of the scratch, and of `last`, one turn of a loop at a time. Assumes nothing.
use Prim.Native.Nat.{ℕ, zero, suc, ◌+◌, ◌-◌, ◌<◌, ◌≤◌}
use mathlib.Core.Bool.{Bool, true, false, and-false}
use mathlib.Core.List.{List}
use mathlib.Core.Path.{◌≡◌, refl, sym, ◌∙◌, ap}
use mathlib.Core.Logic.{⊎_elim}
use native.Mathlib.Nat.{eq-or-lt_of_le, le_of_suc-le-suc, zero-add, add-zero}
use native.Mathlib.Numerals.{add-one}
use native.Mathlib.Omega.{arith}
use lib.ListN.{length, get_or, set, length-set}
use lib.Seq.{get_or-set_same, get_or-set_other}
use lib.Dec.{eqb}
use borrow.Author.Tests.{eq-eqb, ne_eqb, eqb-true, eqb-false, not-true, not-false}
use Rattle.lists.specs.Search.{first, last}
use Rattle.tables.specs.Table.{keeps}
use Rattle.scratch.specs.Scratch.{Filled}
use Rattle.tables.specs.Wants.{wants, gives, found, code_at, chain_of}
use Rattle.protein.specs.Job.{Job}
use Rattle.tables.specs.declared.Want.TheVariants.{Chain}
use Rattle.tables.specs.declared.Want.{Want}
use Rattle.tables.specs.declared.Which.{Which}
use Rattle.tables.specs.declared.Which.TheVariants.{First, Last}
use Rattle.scratch.proofs.Laws.{fill_set, fill_same, fill_start}
use Rattle.lists.proofs.Bools.{clash}
use Rattle.lists.proofs.Searches.{first_kept, first_no, first_yes, first_zero, last_no, last_yes, last_zero}

-- an atom is given to its own residue alone
pub gives_yes : (J : Job) (w : Want) (r a : ℕ) → r ≡ J.residue a → wants J w a ≡ true → gives J w r a ≡ true
unfolding gives
gives_yes J w r a q e = rw (eq-eqb _ _ (sym q), e)

pub gives_other : (J : Job) (w : Want) (r a : ℕ) → (J.residue a ≡ r → ⊥) → gives J w r a ≡ false
unfolding gives
gives_other J w r a q = rw (ne_eqb _ _ q)

pub gives_no : (J : Job) (w : Want) (r a : ℕ) → wants J w a ≡ false → gives J w r a ≡ false
unfolding gives
gives_no J w r a e = rw (e, and-false)

-- what a search finds when one more atom is looked at, for the first and the last alike
pub found_zero : (x : Which) (t : ℕ → Bool) → found x t 0 ≡ 0
unfolding found
found_zero First t = first_zero t
found_zero Last t = last_zero t

pub found_yes : (x : Which) (t : ℕ → Bool) (n : ℕ) → keeps x (found x t n) ≡ false → t n ≡ true → found x t (n + 1) ≡ n + 1
unfolding keeps found
found_yes First t n k e = first_yes t n (eqb-true _ _ (not-false _ k)) e
found_yes Last t n k e = last_yes t n e

pub found_no : (x : Which) (t : ℕ → Bool) (n : ℕ) → t n ≡ false → found x t (n + 1) ≡ found x t n
unfolding found
found_no First t n e = first_no t n e
found_no Last t n e = last_no t n e

pub found_kept : (x : Which) (t : ℕ → Bool) (n : ℕ) → keeps x (found x t n) ≡ true → found x t (n + 1) ≡ found x t n
unfolding keeps found
found_kept First t n k = first_kept t n (eqb-false _ _ (not-true _ k))
found_kept Last t n k = clash refl (sym k)

-- nothing is found from a up to a + d
pub found_skip : (x : Which) (t : ℕ → Bool) (a d : ℕ) → ((k : ℕ) → a ≤ k → k < a + d → t k ≡ false) → found x t (a + d) ≡ found x t a
found_skip x t a zero none = rw add-zero
found_skip x t a (suc d) none =
    let e : a + suc d ≡ a + d + 1 = omega arith in
    rw e (found_no x t (a + d) (none (a + d) (omega arith) (omega arith)) ∙ found_skip x t a d (λ k l m. none k l (omega arith)))

-- before the first atom
pub fill_begins : (J : Job) (x : Which) (w : Want) (base : ℕ) (t : List ℕ) → ((r : ℕ) → r < J.residues → get_or t (base + r) 0 ≡ 0)
    → Filled (λ r. found x (gives J w (0 + r)) 0) (base + 0) (J.residues - 0) t t
fill_begins J x w base t none =
    fill_start _ _ _ _ (λ r l. let e : base + 0 + r ≡ base + r = omega arith in ap (λ (k : ℕ). get_or t k 0) e ∙ none r (omega arith) ∙ sym (found_zero x _))

-- one atom noted, over the n residues from `first` on: the atom a is stored for its residue, is not asked for, has no residue among
-- them, or comes after the first
module _ (J : Job) (x : Which) (w : Want) (base first n : ℕ) (t₀ t : List ℕ) (a : ℕ) (F : Filled (λ i. found x (gives J w (first + i)) a) (base + first) n t₀ t) where
  pub turn_hit : (r : ℕ) → base + first + n ≤ length t₀ → r ≡ J.residue a → first ≤ r → r < first + n → keeps x (get_or t (base + r) 0) ≡ false → wants J w a ≡ true
      → Filled (λ i. found x (gives J w (first + i)) (a + 1)) (base + first) n t₀ (set t (base + r) (a + 1))
  turn_hit r fits q f l k e =
      let place : base + r ≡ base + first + (r - first) = omega arith in
      let own : first + (r - first) ≡ J.residue a = omega arith in
      let few : r - first < n = omega arith in
      rw place
      (fill_set _ _ (base + first) n t₀ t (r - first) (a + 1) F few fits
      (found_yes x _ a (ap (keeps x) (sym (F.entry (r - first) few) ∙ ap (λ (j : ℕ). get_or t j 0) (sym place)) ∙ k) (gives_yes J w (first + (r - first)) a own e))
      (λ i m ne. found_no x _ a (gives_other J w (first + i) a (λ p. ne (omega arith)))))

  pub turn_miss : wants J w a ≡ false → Filled (λ i. found x (gives J w (first + i)) (a + 1)) (base + first) n t₀ t
  turn_miss e = fill_same _ _ (base + first) n t₀ t F (λ i l. found_no x _ a (gives_no J w (first + i) a e))

  pub turn_out : ((i : ℕ) → i < n → J.residue a ≡ first + i → ⊥) → Filled (λ i. found x (gives J w (first + i)) (a + 1)) (base + first) n t₀ t
  turn_out out = fill_same _ _ (base + first) n t₀ t F (λ i l. found_no x _ a (gives_other J w (first + i) a (out i l)))

  pub turn_kept : (r : ℕ) → r ≡ J.residue a → first ≤ r → r < first + n → keeps x (get_or t (base + r) 0) ≡ true → Filled (λ i. found x (gives J w (first + i)) (a + 1)) (base + first) n t₀ t
  turn_kept r q f l k = fill_same _ _ (base + first) n t₀ t F (λ i m. go i m (eqb (first + i) r) refl)
    where
      go : (i : ℕ) → i < n → (b : Bool) → eqb (first + i) r ≡ b → found x (gives J w (first + i)) (a + 1) ≡ found x (gives J w (first + i)) a
      go i m true e =
          let here = eqb-true (first + i) r e in
          let place : base + first + i ≡ base + r = omega arith in
          found_kept x _ a (ap (keeps x) (sym (F.entry i m) ∙ ap (λ (j : ℕ). get_or t j 0) place) ∙ k)
      go i m false e = found_no x _ a (gives_other J w (first + i) a (λ p. eqb-false (first + i) r e (sym p ∙ sym q)))

-- a table from 0 that grows by one place
module _ (f : ℕ → ℕ) (i : ℕ) (t₀ t : List ℕ) (F : Filled f 0 i t₀ t) where
  pub grow_at : get_or t i 0 ≡ get_or t₀ i 0
  grow_at = F.after i (omega arith)

  pub grow_same : get_or t i 0 ≡ f i → Filled f 0 (i + 1) t₀ t
  grow_same e = record {
    size = F.size;
    entry = λ r h. ⊎_elim (λ q. rw q (rw zero-add e)) (λ m. F.entry r m) (eq-or-lt_of_le (le_of_suc-le-suc (rw add-one at h)));
    before = F.before;
    after = λ j h. F.after j (omega arith);
  }

  pub grow_set : (v : ℕ) → i < length t₀ → v ≡ f i → Filled f 0 (i + 1) t₀ (set t i v)
  grow_set v l e =
      let z = F.size in
      record {
        size = length-set t i v ∙ F.size;
        entry = λ r h. ⊎_elim
            (λ q. rw q (rw zero-add (get_or-set_same t i v 0 (omega arith) ∙ e)))
            (λ m. rw zero-add (get_or-set_other t i r v 0 (λ q. omega arith) ∙ rw zero-add at (F.entry r m)))
            (eq-or-lt_of_le (le_of_suc-le-suc (rw add-one at h)));
        before = λ j h. absurd (omega arith);
        after = λ j h. get_or-set_other t i j v 0 (λ q. omega arith) ∙ F.after j (omega arith);
      }

pub code_none : (J : Job) (r a : ℕ) → a ≡ last (gives J Chain r) J.atoms → a ≡ 0 → a ≡ chain_of J r
unfolding chain_of
code_none J r a e z = z ∙ sym (rw (← e, z))

pub code_some : (J : Job) (r a : ℕ) → a ≡ last (gives J Chain r) J.atoms → (a ≡ 0 → ⊥) → J.chain (a - 1) + 1 ≡ chain_of J r
unfolding chain_of
code_some J r a e ne = rw (← e) (go a ne)
  where
    go : (a : ℕ) → (a ≡ 0 → ⊥) → J.chain (a - 1) + 1 ≡ code_at J a
    go zero ne = absurd (ne refl)
    go (suc a) ne = let q : suc a - 1 ≡ a = omega arith in rw q
