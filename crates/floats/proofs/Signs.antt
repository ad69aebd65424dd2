-- The absolute value by two comparisons with zero, and the greater by one. Assumes nothing.
use mathlib.Core.Path.{◌≡◌, refl, sym, ap, ◌∙◌, subst}
use Prim.Native.Nat.{ℕ, zero, suc, ◌+◌, ◌*◌, ◌^◌, ◌<◌}
use native.Mathlib.Nat.{zero-lt-suc, mul-pos, mul-one, one-mul, pow-succ'}
use native.Mathlib.Omega.{arith}
use mathlib.Core.Bool.{Bool, true, false, not, beq, ◌||◌, cond, true≢false, false≢true}
use lib.IntN.{ℤ, pos, negsuc}
use lib.Dec.{T, eqb, ltb, eqb→eq, ltb→lt, lt→ltb}
use lib.Pow.{pow_pos}
use lib.Ieee.{Float, nan, inf, fin, Format, binary32, up, down, lt, eq, neg, fits, is_nan, level, of_bits}
use lib.Ieee.Fits.{and_l, up_pos}
use Rattle.floats.specs.Floats.{absolute, greater}

abbrev zero_f : Float
zero_f = fin false 0 (pos 0)

pub zero_is : of_bits binary32 0 ≡ zero_f
unfolding of_bits
zero_is = refl

yes : (b : Bool) → b ≡ true → T b
yes true e = tt
yes false e = absurd (false≢true e)

-- below zero, the sign is flipped
pub below_zero : (x : Float) → lt x zero_f ≡ true → neg x ≡ absolute x
unfolding lt neg absolute
below_zero nan h = absurd (false≢true h)
below_zero (inf true) h = refl
below_zero (inf false) h = absurd (false≢true h)
below_zero (fin true m e) h = refl
below_zero (fin false m e) h = absurd (none (m * up e * 1) (0 * 1 * down e) (zeros (down e)) (ltb→lt (m * up e * 1) (0 * 1 * down e) (yes (ltb (m * up e * 1) (0 * 1 * down e)) h)))
  where
    none : (a b : ℕ) → b ≡ 0 → a < b → ⊥
    none a b e h = omega arith

    zeros : (d : ℕ) → 0 * 1 * d ≡ 0
    zeros d = omega arith

two_up : (p : ℕ) → 0 < p → 2 * p ≡ 1 → ⊥
two_up p h e = omega arith

flat : (e : ℤ) → up e * down e ≡ 1 → e ≡ pos 0
flat (pos zero) h = refl
flat (pos (suc k)) h = absurd (two_up (2 ^ k) (pow_pos k) (sym (pow-succ' 2 k) ∙ sym (mul-one (2 ^ suc k)) ∙ h))
flat (negsuc k) h = absurd (two_up (2 ^ k) (pow_pos k) (sym (pow-succ' 2 k) ∙ sym (one-mul (2 ^ suc k)) ∙ h))

-- at zero
pub at_zero : (f : Format) (x : Float) → T (fits f x) → eq x zero_f ≡ true → zero_f ≡ absolute x
unfolding eq absolute fits
at_zero f nan t h = absurd (false≢true h)
at_zero f (inf s) t h = absurd (false≢true h)
at_zero f (fin s zero e) t h = ap (fin false 0) (sym (flat e (eqb→eq (up e * down e) 1 t)))
at_zero f (fin s (suc m) e) t h =
    absurd (none (suc m * up e * 1) (0 * 1 * down e) (zeros (down e)) (mul-pos (mul-pos (zero-lt-suc m) (up_pos e)) (zero-lt-suc 0))
    (eqb→eq (suc m * up e * 1) (0 * 1 * down e) (and_l (eqb (suc m * up e * 1) (0 * 1 * down e)) (beq s false || eqb (suc m * up e * 1) 0) (yes (level s (suc m * up e * 1) false (0 * 1 * down e)) h))))
  where
    none : (a b : ℕ) → b ≡ 0 → 0 < a → a ≡ b → ⊥
    none a b e h k = omega arith

    zeros : (d : ℕ) → 0 * 1 * d ≡ 0
    zeros d = omega arith

-- ---- and above
pub above_zero : (x : Float) → T (fits binary32 x) → lt x zero_f ≡ false → eq x zero_f ≡ false → x ≡ absolute x
unfolding lt eq absolute fits
above_zero nan t h k = refl
above_zero (inf true) t h k = absurd (true≢false h)
above_zero (inf false) t h k = refl
above_zero (fin false m e) t h k = refl
above_zero (fin true zero e) t h k = absurd (true≢false (subst (λ (z : ℤ). eq (fin true 0 z) zero_f ≡ false) (flat e (eqb→eq (up e * down e) 1 t)) k))
above_zero (fin true (suc m) e) t h k =
    absurd (subst T h (lt→ltb 0 (suc m * up e * 1 + 0 * 1 * down e) (some (suc m * up e * 1) (0 * 1 * down e) (mul-pos (mul-pos (zero-lt-suc m) (up_pos e)) (zero-lt-suc 0)))))
  where
    some : (a b : ℕ) → 0 < a → 0 < a + b
    some a b h = omega arith

pub of_nan : (x y : Float) → x ≡ nan → y ≡ greater x y
unfolding greater is_nan
of_nan x y e = sym (ap (λ (z : Float). greater z y) e)

pub of_test : (x y : Float) (b : Bool) → T (not (is_nan x)) → lt x y ≡ b → cond b y x ≡ greater x y
unfolding greater is_nan
of_test nan y b n e = absurd n
of_test (inf s) y b n e = ap (λ (c : Bool). cond c y (inf s)) (sym e)
of_test (fin s m d) y b n e = ap (λ (c : Bool). cond c y (fin s m d)) (sym e)
