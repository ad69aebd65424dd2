-- The order of floats: what holds of `lt`, `eq` and `le` for all of them, NaN, infinities and both zeros. A number here is a float that is no NaN. All follows from
-- `compared`, which says of two numbers that exactly one of less, equal and greater holds, and from `not_lt_trans`. Some have no user yet: the next request that
-- orders floats finds them here. Assumes nothing.
use mathlib.Core.Path.{◌≡◌, refl, sym, ◌∙◌}
use mathlib.Core.Bool.{Bool, true, false, ◌&&◌, ◌||◌, cond, and-true, true≢false}
use mathlib.Core.Logic.{◌⊎◌, inl, inr, ⊎_elim}
use Prim.Native.Nat.{ℕ, ◌+◌, ◌*◌, ◌≤◌, ◌<◌}
use native.Mathlib.Nat.{add-zero, zero-add, zero-mul, add-mul, mul_right_comm, mul-le-mul_right, le_of_mul-le-mul_right, add_comm}
use native.Mathlib.Omega.{arith}
use borrow.Author.Tests.{ltb-true, ltb-false, le-ltb, eqb-true, eqb-false, eq-eqb, ne_eqb}
use lib.Dec.{ltb, eqb}
use lib.Ieee.{Float, nan, inf, fin, up, down, below, level, lt, eq, le, is_nan}
use lib.Ieee.Fits.{down_pos}

-- ---- two floats
-- Whether one of them is a NaN, and what x < y, x = y and y < x compute to: exactly one of the three is true, and with a NaN none.
data Compared : Bool → Bool → Bool → Bool → Type 0 where
  less : Compared false true false false
  same : Compared false false true false
  more : Compared false false false true
  unordered : Compared true false false false

wholes : (a b : ℕ) → Compared false (ltb a b) (eqb a b) (ltb b a)
wholes a b = go (ltb a b) refl (ltb b a) refl
  where
    go : (t : Bool) → ltb a b ≡ t → (u : Bool) → ltb b a ≡ u → Compared false t (eqb a b) u
    go true e u f = let h = ltb-true a b e in rw (ne_eqb a b (λ q. omega arith), ← f, le-ltb b a (omega arith)) less
    go false e true f = let h = ltb-true b a f in rw (ne_eqb a b (λ q. omega arith)) more
    go false e false f = rw (eq-eqb a b (omega (arith, ltb-false a b e, ltb-false b a f))) same

-- -a and b are equal where both are zero
zeros : (a b : ℕ) → (eqb a b && eqb a 0) ≡ eqb 0 (a + b)
zeros a b = go (eqb a b) refl (eqb a 0) refl
  where
    go : (t : Bool) → eqb a b ≡ t → (u : Bool) → eqb a 0 ≡ u → (t && u) ≡ eqb 0 (a + b)
    go true e true f = sym (eq-eqb 0 (a + b) (omega (arith, eqb-true a b e, eqb-true a 0 f)))
    go true e false f = sym (ne_eqb 0 (a + b) (λ q. eqb-false a 0 f (omega arith)))
    go false e u f = sym (ne_eqb 0 (a + b) (λ q. eqb-false a b e (omega arith)))

-- with x and y changed round
turned : {n t e u : Bool} → Compared n t e u → Compared n u e t
turned less = more
turned same = same
turned more = less
turned unordered = unordered

-- of signs that differ, by the sum of what they stand before
opposite : (n : ℕ) → Compared false (ltb 0 n) (eqb 0 n) false
opposite n = rw (le-ltb n 0 (omega arith)) at (wholes 0 n)

signed : (s : Bool) (a : ℕ) (t : Bool) (b : ℕ) → Compared false (below s a t b) (level s a t b) (below t b s a)
signed false a false b = rw and-true (wholes a b)
signed true a true b = rw and-true (turned (wholes a b))
signed true a false b = rw zeros (opposite (a + b))
signed false a true b = rw (zeros, add_comm b a) (turned (opposite (a + b)))

compared : (x y : Float) → Compared (is_nan x || is_nan y) (lt x y) (eq x y) (lt y x)
unfolding is_nan lt eq
compared nan nan = unordered
compared nan (inf t) = unordered
compared nan (fin t n d) = unordered
compared (inf s) nan = unordered
compared (inf true) (inf true) = same
compared (inf true) (inf false) = less
compared (inf false) (inf true) = more
compared (inf false) (inf false) = same
compared (inf true) (fin t n d) = less
compared (inf false) (fin t n d) = more
compared (fin s m e) nan = unordered
compared (fin s m e) (inf true) = more
compared (fin s m e) (inf false) = less
compared (fin s m e) (fin t n d) = signed s (m * up e * down d) t (n * up d * down e)

of_lt : {n e u : Bool} → Compared n true e u → (n ≡ false) × (e ≡ false) × (u ≡ false)
of_lt less = (refl, refl, refl)

of_eq : {n t u : Bool} → Compared n t true u → (n ≡ false) × (t ≡ false) × (u ≡ false)
of_eq same = (refl, refl, refl)

of_neither : {e : Bool} → Compared false false e false → e ≡ true
of_neither same = refl

of_rest : {t e : Bool} → Compared false t e false → (t || e) ≡ true
of_rest less = refl
of_rest same = refl

or_no : (a b : Bool) → (a || b) ≡ false → (a ≡ false) × (b ≡ false)
or_no true b e = absurd (true≢false e)
or_no false b e = (refl, e)

-- ---- what one test says of the others
module _ (x y : Float) where
  pub lt_numbers : lt x y ≡ true → (is_nan x ≡ false) × (is_nan y ≡ false)
  lt_numbers h = or_no (is_nan x) (is_nan y) (of_lt (rw h at (compared x y))).0

  pub lt_not : lt x y ≡ true → lt y x ≡ false
  lt_not h = (of_lt (rw h at (compared x y))).2

  pub lt_not_eq : lt x y ≡ true → eq x y ≡ false
  lt_not_eq h = (of_lt (rw h at (compared x y))).1

  -- nothing equals a NaN
  pub eq_numbers : eq x y ≡ true → (is_nan x ≡ false) × (is_nan y ≡ false)
  eq_numbers h = or_no (is_nan x) (is_nan y) (of_eq (rw h at (compared x y))).0

  pub eq_not_lt : eq x y ≡ true → (lt x y ≡ false) × (lt y x ≡ false)
  eq_not_lt h = let c = of_eq (rw h at (compared x y)) in (c.1, c.2)

  -- of two numbers
  pub not_lt : is_nan x ≡ false → is_nan y ≡ false → lt x y ≡ false → le y x ≡ true
  unfolding le
  not_lt p q h = of_rest (rw (q, p, h) at (compared y x))

pub lt_irreflexive : (x : Float) → lt x x ≡ false
lt_irreflexive x = go (lt x x) refl
  where
    go : (t : Bool) → lt x x ≡ t → lt x x ≡ false
    go true e = lt_not x x e
    go false e = e

-- a number equals itself
pub eq_self : (x : Float) → is_nan x ≡ false → eq x x ≡ true
eq_self x p = of_neither (rw (p, lt_irreflexive x) at (compared x x))

-- of two numbers
pub neither_lt : (x y : Float) → is_nan x ≡ false → is_nan y ≡ false → lt x y ≡ false → lt y x ≡ false → eq x y ≡ true
neither_lt x y p q h k = of_neither (rw (p, q, h, k) at (compared x y))

pub eq_sym : (x y : Float) → eq x y ≡ true → eq y x ≡ true
eq_sym x y h = let n = eq_numbers x y h in let l = eq_not_lt x y h in neither_lt y x n.1 n.0 l.1 l.0

-- ---- `le` is less or equal
module _ (x y : Float) where
  pub lt_is_le : lt x y ≡ true → le x y ≡ true
  unfolding le
  lt_is_le h = rw h

  pub eq_is_le : eq x y ≡ true → le x y ≡ true
  unfolding le
  eq_is_le h = rw ((eq_not_lt x y h).0, h)

  pub le_is : le x y ≡ true → (lt x y ≡ true) ⊎ (eq x y ≡ true)
  unfolding le
  le_is h = go (lt x y) h
    where
      go : (t : Bool) → (t || eq x y) ≡ true → (t ≡ true) ⊎ (eq x y ≡ true)
      go true e = inl refl
      go false e = inr e

  pub le_numbers : le x y ≡ true → (is_nan x ≡ false) × (is_nan y ≡ false)
  le_numbers h = ⊎_elim (λ l. lt_numbers x y l) (λ e. eq_numbers x y e) (le_is h)

  pub le_not : le x y ≡ true → lt y x ≡ false
  le_not h = ⊎_elim (λ l. lt_not x y l) (λ e. (eq_not_lt x y e).1) (le_is h)

-- ---- three floats
-- ±a / p is less than ±b / q, with no signs: what is above zero on one side, what is below it on the other
below_is : (s : Bool) (a p : ℕ) (t : Bool) (b q : ℕ) → below s (a * q) t (b * p) ≡ ltb (cond s 0 a * q + cond t b 0 * p) (cond t 0 b * p + cond s a 0 * q)
below_is false a p false b q = simp (zero-mul, add-zero)
below_is false a p true b q = sym (le-ltb (a * q + b * p) (0 * p + 0 * q) (omega arith))
below_is true a p false b q = simp (zero-mul, add_comm (a * q))
below_is true a p true b q = simp (zero-mul, zero-add)

-- (a - a') / p is at least (b - b') / q, and that at least (c - c') / r
chain : (a a' p b b' q c c' r : ℕ) → 0 < q → b * p + a' * q ≤ a * q + b' * p → c * q + b' * r ≤ b * r + c' * q → c * p + a' * r ≤ a * r + c' * p
chain a a' p b b' q c c' r hq h k =
    let x : b * p * r + a' * q * r ≤ a * q * r + b' * p * r = simp add-mul at (mul-le-mul_right r h) in
    let y : c * q * p + b' * r * p ≤ b * r * p + c' * q * p = simp add-mul at (mul-le-mul_right p k) in
    let z : c * p * q + a' * r * q ≤ a * r * q + c' * p * q =
    omega (arith, mul_right_comm b p r, mul_right_comm a' q r, mul_right_comm a q r, mul_right_comm b' p r, mul_right_comm c q p, mul_right_comm c' q p)
    in
    le_of_mul-le-mul_right (simp add-mul z) hq

not_below : (s : Bool) (a p : ℕ) (t : Bool) (b q : ℕ) (u : Bool) (c r : ℕ) → 0 < q → below s (a * q) t (b * p) ≡ false → below t (b * r) u (c * q) ≡ false
    → below s (a * r) u (c * p) ≡ false
not_below s a p t b q u c r hq h k =
    below_is s a p u c r
    ∙ le-ltb _ _ (chain (cond s 0 a) (cond s a 0) p (cond t 0 b) (cond t b 0) q (cond u 0 c) (cond u c 0) r hq
    (ltb-false _ _ (sym (below_is s a p t b q) ∙ h)) (ltb-false _ _ (sym (below_is t b q u c r) ∙ k)))

-- by a number in the middle; where y is a NaN it does not hold
pub not_lt_trans : (x y z : Float) → is_nan y ≡ false → lt x y ≡ false → lt y z ≡ false → lt x z ≡ false
unfolding lt is_nan
not_lt_trans nan y z n h k = refl
not_lt_trans (inf false) y nan n h k = refl
not_lt_trans (inf false) y (inf u) n h k = refl
not_lt_trans (inf false) y (fin u o f) n h k = refl
not_lt_trans (inf true) nan z n h k = absurd (true≢false n)
not_lt_trans (inf true) (inf true) z n h k = k
not_lt_trans (inf true) (inf false) z n h k = absurd (true≢false h)
not_lt_trans (inf true) (fin t m d) z n h k = absurd (true≢false h)
not_lt_trans (fin s m e) nan z n h k = absurd (true≢false n)
not_lt_trans (fin s m e) (inf false) z n h k = absurd (true≢false h)
not_lt_trans (fin s m e) (inf true) nan n h k = refl
not_lt_trans (fin s m e) (inf true) (inf true) n h k = refl
not_lt_trans (fin s m e) (inf true) (inf false) n h k = k
not_lt_trans (fin s m e) (inf true) (fin u o f) n h k = absurd (true≢false k)
not_lt_trans (fin s m e) (fin t i d) nan n h k = refl
not_lt_trans (fin s m e) (fin t i d) (inf u) n h k = k
not_lt_trans (fin s m e) (fin t i d) (fin u o f) n h k = not_below s (m * up e) (down e) t (i * up d) (down d) u (o * up f) (down f) (down_pos d) h k

module _ (x y z : Float) where
  pub lt_le : lt x y ≡ true → le y z ≡ true → lt x z ≡ true
  lt_le h k = go (lt x z) refl
    where
      go : (t : Bool) → lt x z ≡ t → t ≡ true
      go true e = refl
      go false e = sym (not_lt_trans x z y (le_numbers y z k).1 e (le_not y z k)) ∙ h

  pub le_lt : le x y ≡ true → lt y z ≡ true → lt x z ≡ true
  le_lt h k = go (lt x z) refl
    where
      go : (t : Bool) → lt x z ≡ t → t ≡ true
      go true e = refl
      go false e = sym (not_lt_trans y x z (le_numbers x y h).0 (le_not x y h) e) ∙ k

  pub le_trans : le x y ≡ true → le y z ≡ true → le x z ≡ true
  le_trans h k = not_lt z x (le_numbers y z k).1 (le_numbers x y h).0 (not_lt_trans z y x (le_numbers y z k).0 (le_not y z k) (le_not x y h))

  pub eq_trans : eq x y ≡ true → eq y z ≡ true → eq x z ≡ true
  eq_trans h k =
      let p = eq_numbers x y h in
      let q = eq_numbers y z k in
      neither_lt x z p.0 q.1 (not_lt_trans x y z p.1 (eq_not_lt x y h).0 (eq_not_lt y z k).0) (not_lt_trans z y x p.1 (eq_not_lt y z k).1 (eq_not_lt x y h).1)

  pub lt_trans : lt x y ≡ true → lt y z ≡ true → lt x z ≡ true
  lt_trans h k = lt_le h (lt_is_le y z k)

  pub lt_eq : lt x y ≡ true → eq y z ≡ true → lt x z ≡ true
  lt_eq h k = lt_le h (eq_is_le y z k)

  pub eq_lt : eq x y ≡ true → lt y z ≡ true → lt x z ≡ true
  eq_lt h k = le_lt (eq_is_le x y h) k
