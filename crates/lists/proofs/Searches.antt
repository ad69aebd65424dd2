-- Laws of `first`, `last` and `every`: of any search below n. Assumes nothing.
use Prim.Native.Nat.{ℕ, zero, suc, ◌+◌, ◌<◌, ◌≤◌}
use mathlib.Core.Bool.{Bool, true, false, cond}
use mathlib.Core.Path.{◌≡◌, refl, sym, ap, ◌∙◌, subst}
use mathlib.Core.Logic.{⊎_elim}
use native.Mathlib.Nat.{eq-or-lt_of_le, le_of_suc-le-suc}
use native.Mathlib.Numerals.{add-one}
use native.Mathlib.Omega.{arith}
use Rattle.lists.specs.Search.{IsFirst, IsLast, None, or_else, first, last, every}
use Rattle.lists.proofs.Bools.{clash, and_both}

-- ---- the first number below n that a test takes
-- where none is taken it is 0
pub first_none : (t : ℕ → Bool) (n : ℕ) → None t n → first t n ≡ 0
unfolding first
first_none t zero h = refl
first_none t (suc n) h = rw (first_none t n (λ k l. h k (omega arith)), h n (omega arith))

first_suc : (t : ℕ → Bool) (n i : ℕ) → i < n → ((k : ℕ) → k < i → t k ≡ false) → t i ≡ true → first t n ≡ suc i
unfolding first
first_suc t zero i l h e = absurd (omega arith)
first_suc t (suc n) i l h e =
    ⊎_elim
    (λ q. subst (λ (k : ℕ). or_else (first t n) (cond (t n) (suc n) zero) ≡ suc k) (sym q)
    (rw (first_none t n (λ k m. h k (omega arith)), subst (λ (k : ℕ). t k ≡ true) q e)))
    (λ m. rw (first_suc t n i m h e))
    (eq-or-lt_of_le (le_of_suc-le-suc l))

-- i is the first that is taken
pub first_at : (t : ℕ → Bool) (n i : ℕ) → i < n → ((k : ℕ) → k < i → t k ≡ false) → t i ≡ true → first t n ≡ i + 1
first_at t n i l h e = first_suc t n i l h e ∙ sym (add-one i)

-- a turn of a search
pub first_zero : (t : ℕ → Bool) → first t 0 ≡ 0
unfolding first
first_zero t = refl

pub first_yes : (t : ℕ → Bool) (n : ℕ) → first t n ≡ 0 → t n ≡ true → first t (n + 1) ≡ n + 1
unfolding first
first_yes t n z e = rw (add-one, z, e)

or_else_zero : (a : ℕ) → or_else a 0 ≡ a
or_else_zero zero = refl
or_else_zero (suc a) = refl

pub first_no : (t : ℕ → Bool) (n : ℕ) → t n ≡ false → first t (n + 1) ≡ first t n
unfolding first
first_no t n e = rw (add-one, e, or_else_zero)

or_else_left : (a b : ℕ) → (a ≡ 0 → ⊥) → or_else a b ≡ a
or_else_left zero b h = absurd (h refl)
or_else_left (suc a) b h = refl

pub first_kept : (t : ℕ → Bool) (n : ℕ) → (first t n ≡ 0 → ⊥) → first t (n + 1) ≡ first t n
unfolding first
first_kept t n h = rw (add-one, or_else_left (first t n) _ h)

pub first_le : (t : ℕ → Bool) (n : ℕ) → first t n ≤ n
unfolding first
first_le t zero = omega arith
first_le t (suc n) = go (first t n) (first_le t n) (t n)
  where
    go : (a : ℕ) → a ≤ n → (b : Bool) → or_else a (cond b (suc n) zero) ≤ suc n
    go zero h true = omega arith
    go zero h false = omega arith
    go (suc a) h b = omega arith

-- two tests that agree below n
pub first_same : (t u : ℕ → Bool) (n : ℕ) → ((i : ℕ) → i < n → t i ≡ u i) → first t n ≡ first u n
unfolding first
first_same t u zero h = refl
first_same t u (suc n) h = rw (first_same t u n (λ i l. h i (omega arith)), h n (omega arith))

-- where one is taken there is a first, and where there is no first none is taken
pub some_first : (t : ℕ → Bool) (n i : ℕ) → i < n → t i ≡ true → 0 < first t n
unfolding first
some_first t zero i l e = absurd (omega arith)
some_first t (suc n) i l e = ⊎_elim (λ q. rw (← q, e) (at (first t i))) (λ m. earlier (first t n) (some_first t n i m e)) (eq-or-lt_of_le (le_of_suc-le-suc l))
  where
    at : (a : ℕ) → 0 < or_else a (suc i)
    at zero = omega arith
    at (suc a) = omega arith

    earlier : (a : ℕ) → 0 < a → 0 < or_else a (cond (t n) (suc n) zero)
    earlier zero h = absurd (omega arith)
    earlier (suc a) h = h

pub first_false : (t : ℕ → Bool) (n : ℕ) → first t n ≡ 0 → None t n
first_false t n e i l = go (t i) refl
  where
    go : (b : Bool) → t i ≡ b → t i ≡ false
    go true q = absurd (omega (arith, some_first t n i l q))
    go false q = q

-- ---- the last
pub last_zero : (t : ℕ → Bool) → last t 0 ≡ 0
unfolding last
last_zero t = refl

pub last_yes : (t : ℕ → Bool) (n : ℕ) → t n ≡ true → last t (n + 1) ≡ n + 1
unfolding last
last_yes t n e = rw (add-one, e)

pub last_no : (t : ℕ → Bool) (n : ℕ) → t n ≡ false → last t (n + 1) ≡ last t n
unfolding last
last_no t n e = rw (add-one, e)

pub last_le : (t : ℕ → Bool) (n : ℕ) → last t n ≤ n
unfolding last
last_le t zero = omega arith
last_le t (suc n) = go (t n) (last_le t n)
  where
    go : (b : Bool) → last t n ≤ n → cond b (suc n) (last t n) ≤ suc n
    go true h = omega arith
    go false h = omega arith

pub last_taken : (t : ℕ → Bool) (n i : ℕ) → last t n ≡ suc i → t i ≡ true
unfolding last
last_taken t zero i e = absurd (omega arith)
last_taken t (suc n) i e = go (t n) refl e (last_taken t n i)
  where
    go : (b : Bool) → t n ≡ b → cond b (suc n) (last t n) ≡ suc i → (last t n ≡ suc i → t i ≡ true) → t i ≡ true
    go true q e f = subst (λ (k : ℕ). t k ≡ true) (omega arith) q
    go false q e f = f e

pub last_true : (t : ℕ → Bool) (n a : ℕ) → last t n ≡ suc a → (t a ≡ true) × (a < n)
last_true t n a e = (last_taken t n a e, omega (arith, last_le t n))

-- a number below n that the test takes
abbrev pub Some : (ℕ → Bool) → ℕ → Type 0
Some t n = (i : ℕ) × ((i < n) × (t i ≡ true))

pub last_some : (t : ℕ → Bool) (n : ℕ) → 0 < last t n → Some t n
last_some t n h = go (last t n) refl h
  where
    go : (k : ℕ) → last t n ≡ k → 0 < k → Some t n
    go zero q h = absurd (omega arith)
    go (suc i) q h = let z = last_true t n i q in (i, (z.1, z.0))

pub last_same : (t u : ℕ → Bool) (n : ℕ) → ((i : ℕ) → i < n → t i ≡ u i) → last t n ≡ last u n
unfolding last
last_same t u zero h = refl
last_same t u (suc n) h = rw (h n (omega arith), last_same t u n (λ i l. h i (omega arith)))

-- what t takes, u takes: no t stands above the last u
pub last_through : (t u : ℕ → Bool) → ((i : ℕ) → u i ≡ false → t i ≡ false) → (n : ℕ) → last t n ≡ last t (last u n)
unfolding last
last_through t u h zero = refl
last_through t u h (suc n) = go (u n) refl (last_through t u h n)
  where
    go : (b : Bool) → u n ≡ b → last t n ≡ last t (last u n) → cond (t n) (suc n) (last t n) ≡ last t (cond b (suc n) (last u n))
    go true q e = refl
    go false q e = rw (h n q) e

pub last_up : (t : ℕ → Bool) (n i : ℕ) → i < n → t i ≡ true → i < last t n
unfolding last
last_up t zero i l e = absurd (omega arith)
last_up t (suc n) i l e = go (t n) refl (last_up t n i)
  where
    go : (b : Bool) → t n ≡ b → (i < n → t i ≡ true → i < last t n) → i < cond b (suc n) (last t n)
    go true q f = l
    go false q f =
        ⊎_elim
        (λ z. clash e (ap t z ∙ q))
        (λ z. f z e)
        (eq-or-lt_of_le (le_of_suc-le-suc l))

-- ---- what `first` and `last` mean, both ways

-- one more than i exactly where i is the first
pub first_is : (t : ℕ → Bool) (n i : ℕ) → first t n ≡ suc i → IsFirst t n i
unfolding first
first_is t zero i e = absurd (omega arith)
first_is t (suc n) i e = go (first t n) refl (t n) refl e (first_is t n i)
  where
    go : (a : ℕ) → first t n ≡ a → (b : Bool) → t n ≡ b → or_else a (cond b (suc n) zero) ≡ suc i → (first t n ≡ suc i → IsFirst t n i) → IsFirst t (suc n) i
    go zero q true p e f =
        let z : n ≡ i = omega arith in
        record { below = omega arith; taken = subst (λ (k : ℕ). t k ≡ true) z p; before = λ k l. first_false t n q k (omega arith) }
    go zero q false p e f = absurd (omega arith)
    go (suc a) q b p e f = let r = f (q ∙ e) in record { below = omega (arith, r.below); taken = r.taken; before = r.before }

pub is_first : (t : ℕ → Bool) (n i : ℕ) → IsFirst t n i → first t n ≡ suc i
is_first t n i F = first_suc t n i F.below F.before F.taken

-- and 0 exactly where there is none: `first_none`, `first_false` above

-- the same of the last
pub last_is : (t : ℕ → Bool) (n i : ℕ) → last t n ≡ suc i → IsLast t n i
last_is t n i e = let z = last_true t n i e in record { below = z.1; taken = z.0; after = λ k l h. above k l h (t k) refl }
  where
    above : (k : ℕ) → i < k → k < n → (b : Bool) → t k ≡ b → t k ≡ false
    above k l h true q = absurd (omega (arith, last_up t n k h q))
    above k l h false q = q

pub is_last : (t : ℕ → Bool) (n i : ℕ) → IsLast t n i → last t n ≡ suc i
is_last t n i L = go (last t n) refl
  where
    go : (a : ℕ) → last t n ≡ a → last t n ≡ suc i
    go zero q = absurd (omega (arith, last_up t n i L.below L.taken))
    go (suc a) q =
        let z = last_true t n a q in
        let up : i ≤ a = omega (arith, last_up t n i L.below L.taken) in
        ⊎_elim
        (λ (e : i ≡ a). q ∙ ap suc (sym e))
        (λ (l : i < a). clash z.0 (L.after a l z.1))
        (eq-or-lt_of_le up)

pub last_false : (t : ℕ → Bool) (n : ℕ) → last t n ≡ 0 → None t n
last_false t n e k h = go (t k) refl
  where
    go : (b : Bool) → t k ≡ b → t k ≡ false
    go true q = absurd (omega (arith, last_up t n k h q))
    go false q = q

pub last_none : (t : ℕ → Bool) (n : ℕ) → None t n → last t n ≡ 0
unfolding last
last_none t zero h = refl
last_none t (suc n) h = rw (h n (omega arith), last_none t n (λ k l. h k (omega arith)))

-- ---- every number below n
-- a turn of a loop that tests them
pub every_none : (t : ℕ → Bool) → every t 0 ≡ true
unfolding every
every_none t = refl

pub every_more : (t : ℕ → Bool) (n : ℕ) → every t n ≡ true → t n ≡ true → every t (n + 1) ≡ true
unfolding every
every_more t n e h = rw (add-one, e, h)

-- true exactly where each is taken
pub every_takes : (t : ℕ → Bool) (n i : ℕ) → every t n ≡ true → i < n → t i ≡ true
unfolding every
every_takes t zero i e l = absurd (omega arith)
every_takes t (suc n) i e l =
    let b = and_both (every t n) (t n) e in
    ⊎_elim (λ q. subst (λ (k : ℕ). t k ≡ true) (sym q) b.1) (λ m. every_takes t n i b.0 m) (eq-or-lt_of_le (le_of_suc-le-suc l))

pub takes_every : (t : ℕ → Bool) (n : ℕ) → ((i : ℕ) → i < n → t i ≡ true) → every t n ≡ true
unfolding every
takes_every t zero h = refl
takes_every t (suc n) h = rw (takes_every t n (λ i l. h i (omega arith)), h n (omega arith))

-- one that is not taken
pub every_lost : (t : ℕ → Bool) (n i : ℕ) → i < n → t i ≡ false → every t n ≡ false
every_lost t n i l e = go (every t n) refl
  where
    go : (b : Bool) → every t n ≡ b → every t n ≡ false
    go true q = clash (every_takes t n i q l) e
    go false q = q

-- two tests that agree below n
pub every_same : (t u : ℕ → Bool) (n : ℕ) → ((i : ℕ) → i < n → t i ≡ u i) → every t n ≡ every u n
unfolding every
every_same t u zero h = refl
every_same t u (suc n) h = rw (every_same t u n (λ i l. h i (omega arith)), h n (omega arith))
