-- Narrowing is IEEE 754's nearest, ties to even, in plain arithmetic and over the format: `IsNearestTo` and `Gives` of
-- specs/Nearest. Assumes nothing.
use mathlib.Core.Path.{◌≡◌, refl, sym, ap, ◌∙◌, subst}
use mathlib.Core.Logic.{◌⊎◌, inl, inr}
use Prim.Native.Nat.{ℕ, suc, ◌+◌, ◌-◌, ◌*◌, ◌/◌, ◌%◌, ◌^◌, ◌≤◌, ◌<◌, compare, Ordering}
use native.Mathlib.Nat.{lt-suc_self, mul_comm, mul_assoc, mul-pos, mul-lt-mul_of_pos_right, div-mul-le_self, div-add-mod', div-div-eq-div-mul, div-lt_iff_lt-mul, add-mul, one-mul}
use native.Mathlib.Omega.{arith}
use mathlib.Core.Bool.{Bool, true, false, not}
use lib.IntN.{ℤ}
use lib.Dec.{T, ltb, ltb→lt, nltb→le}
use lib.Pow.{pow_pos}
use lib.Ieee.{Float, nan, inf, fin, Format, prec, low, up, down, size, units, hid}
use lib.Ieee.Fits.{kept-lt, down_pos, round_is}
use lib.Ieee.Exact.{HasValue, units_val}
use lib.Ieee.Nearest.{closest}
use lib.Ieee.Scale.{overflow}
use Rattle.floats.specs.Floats.{narrowed}
use Rattle.floats.specs.Nearest.{IsNearestTo, Gives}
use Rattle.floats.proofs.Grid.{is_inf}
use Rattle.floats.proofs.Closest.{Cmp, cmp}
use Rattle.floats.proofs.Narrows.{narrowed_at}
use Rattle.floats.proofs.NearestValue.{NearestBy, leading, picked, only}

-- there is one nearest to a / c
pub one_nearest_to : (f : Format) (a c r s : ℕ) → 0 < c → IsNearestTo f a c r → IsNearestTo f a c s → r ≡ s
one_nearest_to f a c r s C R S =
    only f (λ (x : ℕ). x * c) (λ (x y : ℕ) (l : x < y). mul-lt-mul_of_pos_right l C) (2 * a) r s
    (record { held = R.held; below = R.below; above = R.above; tie = R.tie })
    (record { held = S.held; below = S.below; above = S.above; tie = S.tie })

-- ---- a / c smallest values, rounded
module _ (f : Format) (a c : ℕ) (C : 0 < c) where
  k : ℕ
  k = size (a / c) - prec f

  u : ℕ
  u = c * 2 ^ k

  v : ℕ
  v = a / u

  U : 0 < u
  unfolding u
  U = mul-pos C (pow_pos k)

  cut : a / c / 2 ^ k ≡ v
  unfolding v u
  cut = div-div-eq-div-mul a c (2 ^ k)

  -- x * 2 ^ k smallest values are x * u of the c-th parts
  parts : (x : ℕ) → x * 2 ^ k * c ≡ x * u
  unfolding u
  parts x = mul_assoc x (2 ^ k) c ∙ ap (λ (y : ℕ). x * y) (mul_comm (2 ^ k) c)

  twice : (x : ℕ) → (x * 2 ^ k + x * 2 ^ k) * c ≡ x * u + x * u
  twice x = add-mul (x * 2 ^ k) (x * 2 ^ k) c ∙ ap (λ (y : ℕ). y + y) (parts x)

  lower : (v * 2 ^ k + v * 2 ^ k) * c ≤ 2 * a
  unfolding v
  lower = low (v * u) a (twice v) (div-mul-le_self a u)
    where
      low : (x a : ℕ) {y : ℕ} → y ≡ x + x → x ≤ a → y ≤ 2 * a
      low x a e l = omega arith

  upper : 2 * a < (suc v * 2 ^ k + suc v * 2 ^ k) * c
  unfolding v
  upper = high (suc v * u) a (twice (suc v)) ((div-lt_iff_lt-mul U).0 (lt-suc_self v))
    where
      high : (x a : ℕ) {y : ℕ} → y ≡ x + x → a < x → 2 * a < y
      high x a e l = omega arith

  -- the remainder compares with half of u as a with the half-way point
  halfway : (o : Ordering) → Cmp o (a % u * 2) u → Cmp o (2 * a) ((2 * v + 1) * 2 ^ k * c)
  unfolding v
  halfway o = go o (a % u) u (v * u) a ((2 * v + 1) * 2 ^ k * c) (div-add-mod' a u) (parts (2 * v + 1) ∙ split v u)
    where
      split : (v u : ℕ) → (2 * v + 1) * u ≡ 2 * (v * u) + u
      split v u =
          add-mul (2 * v) 1 u
          ∙ ap (λ (x : ℕ). x + 1 * u) (mul_assoc 2 v u) ∙ ap (λ (x : ℕ). 2 * (v * u) + x) (one-mul u)

      go : (o : Ordering) (t u q a h : ℕ) → q + t ≡ a → h ≡ 2 * q + u → Cmp o (t * 2) u → Cmp o (2 * a) h
      go Ordering.lt t u q a h d e l = omega arith
      go Ordering.eq t u q a h d e l = omega arith
      go Ordering.gt t u q a h d e l = omega arith

  kept : ℕ
  kept = closest a (c * 2 ^ k) * 2 ^ k

  kept_nearest : IsNearestTo f a c kept
  unfolding kept v u k
  kept_nearest =
      let p : NearestBy f (λ (x : ℕ). x * c) (2 * a) kept =
      picked f (λ (x : ℕ). x * c) (λ (x y : ℕ) (l : x < y). mul-lt-mul_of_pos_right l C) (2 * a) v k
      (subst (λ (x : ℕ). x < 2 ^ prec f) cut (kept-lt (prec f) (a / c)))
      (subst (λ (x : ℕ). (k ≡ 0) ⊎ (hid f ≤ x)) cut (leading f (a / c)))
      lower upper (compare (a % u * 2) u) (halfway (compare (a % u * 2) u) (cmp (a % u * 2) u)) in
      record { held = p.held; below = p.below; above = p.above; tie = p.tie }

  kept_given : (s : Bool) → Gives f s kept (units f s (closest a (c * 2 ^ k)) k)
  unfolding kept
  kept_given s = go (ltb kept (overflow f)) (ltb→lt kept (overflow f)) (nltb→le kept (overflow f)) refl
    where
      go : (b : Bool) → (T b → kept < overflow f) → (T (not b) → overflow f ≤ kept) → ltb kept (overflow f) ≡ b
          → Gives f s kept (units f s (closest a (c * 2 ^ k)) k)
      go true p q e = inl (p tt, units_val f s (closest a (c * 2 ^ k)) k (p tt))
      go false p q e = inr (q tt, is_inf f s (closest a (c * 2 ^ k)) k e)

-- ---- the theorem

-- x is finite, of the sign s, and a / c in size, which is a * 2 ^ low / c smallest values of f. It narrows to the r of
-- them that is the nearest, a tie to the even one, with the sign s; and where r is past f's upper end, to the infinity of
-- that sign. Every finite x has such an a and c, its own digits over a power of two: `narrowed_finite`
pub narrowed_is_nearest : (f : Format) (x : Float) (s : Bool) (a c : ℕ) → 0 < c → HasValue x s a c
    → (r : ℕ) × IsNearestTo f (a * 2 ^ low f) c r × Gives f s r (narrowed f x)
unfolding k
narrowed_is_nearest f x s a c C h =
    let n = a * 2 ^ low f in
    let j = k f n c C in
    let is : narrowed f x ≡ units f s (closest n (c * 2 ^ j)) j = narrowed_at f x s a c C h ∙ round_is f s a c in
    (kept f n c C, kept_nearest f n c C, subst (Gives f s (kept f n c C)) (sym is) (kept_given f n c C s))

-- of a finite x nothing is asked: it is m * up e / down e in size, up e or down e being 1 and the other a power of two
pub narrowed_finite : (f : Format) (s : Bool) (m : ℕ) (e : ℤ)
    → (r : ℕ) × IsNearestTo f (m * up e * 2 ^ low f) (down e) r × Gives f s r (narrowed f (fin s m e))
narrowed_finite f s m e = narrowed_is_nearest f (fin s m e) s (m * up e) (down e) (down_pos e) (refl, refl)

-- an infinity gives that of the same sign, a NaN a NaN
pub narrowed_inf : (f : Format) (s : Bool) → narrowed f (inf s) ≡ inf s
unfolding narrowed
narrowed_inf f s = refl

pub narrowed_nan : (f : Format) → narrowed f nan ≡ nan
unfolding narrowed
narrowed_nan f = refl
