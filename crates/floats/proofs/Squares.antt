-- Whole roots: what `floor_root` is, how it goes with a scale, and that a nearest whole root is one only. Nothing here is about floats. Assumes nothing.
use mathlib.Core.Path.{◌≡◌, refl, sym, ap, ◌∙◌, subst}
use Prim.Native.Nat.{ℕ, zero, suc, ◌+◌, ◌*◌, ◌/◌, ◌^◌, ◌≤◌, ◌<◌}
use native.Mathlib.Nat.{le_trans, le_of_eq, le_of_lt, le_antisymm, le_of_suc-le-suc, lt_of_lt_of_le, lt_of_le_of_lt, lt_of_not-le, not-le_of_lt, add_comm, add_assoc, mul_comm, mul-mul-mul_comm, mul-add, add-mul, suc-mul, mul-suc, mul-le-mul, mul-le-mul_right, mul-lt-mul_of_pos_right, pow-succ', le-div_iff_mul-le, div-lt_iff_lt-mul, one-mul, mul-one}
use native.Mathlib.Numerals.{add-one}
use native.Mathlib.Omega.{arith}
use mathlib.Core.Bool.{Bool, true, false, not, cond}
use lib.Dec.{T, leb, leb→le, nleb→lt}
use lib.Pow.{pow_pos}
use lib.Ieee.{size}
use lib.Ieee.Digits.{size-lt}
use Rattle.floats.specs.Floats.{root_digits, floor_root}

-- w is the whole root of n
abbrev pub Whole : ℕ → ℕ → Type 0
Whole n w = (w * w ≤ n) × (n < (w + 1) * (w + 1))

-- r is the whole number nearest to √n, for an n above 0: (r - 1/2) ^ 2 < n < (r + 1/2) ^ 2. No half-way point has a whole square, so there is no tie
abbrev pub Near : ℕ → ℕ → Type 0
Near n r = (r * r < n + r) × (n ≤ r * r + r)

pub sq_next : (w : ℕ) → (w + 1) * (w + 1) ≡ w * w + w + w + 1
sq_next w = simp (mul-add, add-mul, mul-one, one-mul, add_assoc)

pub sq_lt : (a b : ℕ) → a * a < b * b → a < b
sq_lt a b h = lt_of_not-le (λ (g : b ≤ a). not-le_of_lt h (mul-le-mul g g))

pub sq_le : (r : ℕ) → r < 2 ^ 25 → r * r ≤ 2 ^ 50
sq_le r h = mul-le-mul (le_of_lt h) (le_of_lt h)

-- where r * (r - 1) is below an n of 48 digits, r is at most 2 ^ 24
pub near_le : (n r : ℕ) → n < 2 ^ 48 → r * r < n + r → r ≤ 2 ^ 24
near_le n zero h k = omega arith
near_le n (suc r) h k = le_of_suc-le-suc (lt_of_not-le (λ (g : suc (2 ^ 24) ≤ suc r). over n (r * suc r) (suc r) (suc r * suc r) h k (suc-mul r (suc r)) (mul-le-mul (le_of_suc-le-suc g) (le_of_lt g))))
  where
    over : (n x s y : ℕ) → n < 2 ^ 48 → y < n + s → y ≡ x + s → 2 ^ 48 ≤ x → ⊥
    over n x s y a b c d = omega arith

quads : (v : ℕ) → v * 2 * (v * 2) ≡ 4 * (v * v)
quads v = mul-mul-mul_comm v 2 v 2 ∙ mul_comm (v * v) 4

-- ---- the digits
root_step : (n v : ℕ) → Whole (n / 4) v → Whole n (cond (leb ((v * 2 + 1) * (v * 2 + 1)) n) (v * 2 + 1) (v * 2))
root_step n v (lo, hi) = go (leb ((v * 2 + 1) * (v * 2 + 1)) n) (leb→le ((v * 2 + 1) * (v * 2 + 1)) n) (nleb→lt ((v * 2 + 1) * (v * 2 + 1)) n)
  where
    w : ℕ
    w = v * 2

    under : w * w ≤ n
    under = lower (v * v) n (w * w) (quads v) lo
      where
        lower : (x n y : ℕ) → y ≡ 4 * x → x ≤ n / 4 → y ≤ n
        lower x n y e h = omega arith

    above : n < (w + 1 + 1) * (w + 1 + 1)
    above = upper (v * v) v n (w * w) w ((w + 1 + 1) * (w + 1 + 1)) ((w + 1) * (w + 1)) ((v + 1) * (v + 1)) (quads v) refl (sq_next v) (sq_next w) (sq_next (w + 1)) hi
      where
        upper : (x v n y w z u q : ℕ) → y ≡ 4 * x → w ≡ v * 2 → q ≡ x + v + v + 1 → u ≡ y + w + w + 1 → z ≡ u + (w + 1) + (w + 1) + 1 → n / 4 < q → n < z
        upper x v n y w z u q a b c d e h = omega arith

    go : (b : Bool) → (T b → (w + 1) * (w + 1) ≤ n) → (T (not b) → n < (w + 1) * (w + 1)) → Whole n (cond b (w + 1) w)
    go true p q = (p tt, above)
    go false p q = (under, q tt)

digits_are : (d n : ℕ) → n < 2 ^ d * 2 ^ d → Whole n (root_digits d n)
unfolding root_digits
digits_are zero n h = ((none n h).0, (none n h).1)
  where
    none : (n : ℕ) → n < 1 → (0 ≤ n) × (n < 1)
    none n h = omega arith
digits_are (suc d) n h = root_step n (root_digits d (n / 4)) (digits_are d (n / 4) (quarter n (2 ^ d * 2 ^ d) (2 ^ suc d * 2 ^ suc d) four h))
  where
    four : 2 ^ suc d * 2 ^ suc d ≡ 4 * (2 ^ d * 2 ^ d)
    four = ap (λ (x : ℕ). x * x) (pow-succ' 2 d ∙ mul_comm 2 (2 ^ d)) ∙ quads (2 ^ d)

    quarter : (n p q : ℕ) → q ≡ 4 * p → n < q → n / 4 < p
    quarter n p q e h = omega arith

pub floor_root_is : (n : ℕ) → Whole n (floor_root n)
unfolding floor_root
floor_root_is n = digits_are (size n) n (lt_of_lt_of_le (size-lt n) (once (2 ^ size n) (pow_pos (size n))))
  where
    once : (x : ℕ) → 0 < x → x ≤ x * x
    once x h = le_trans (le_of_eq (sym (one-mul x))) (mul-le-mul_right x h)

-- ---- the whole root of n * c * c, cut by c, is that of n
scale : (a c : ℕ) → a * c * (a * c) ≡ a * a * (c * c)
scale a c = mul-mul-mul_comm a c a c

pub whole_scale : (n c w v : ℕ) → 0 < c → Whole (n * (c * c)) w → Whole n v → w / c ≡ v
whole_scale n c w v C (a, b) (d, e) = le_antisymm (le_of_suc-le-suc ((div-lt_iff_lt-mul C).1 below)) ((le-div_iff_mul-le C).1 above)
  where
    C2 : 0 < c * c
    C2 = lt_of_lt_of_le C (le_trans (le_of_eq (sym (one-mul c))) (mul-le-mul_right c C))

    above : v * c ≤ w
    above = le_of_suc-le-suc (subst (λ (x : ℕ). v * c < x) (add-one w) (sq_lt (v * c) (w + 1) (lt_of_le_of_lt (le_trans (le_of_eq (scale v c)) (mul-le-mul_right (c * c) d)) b)))

    below : w < suc v * c
    below = sq_lt w (suc v * c) (lt_of_le_of_lt a (lt_of_lt_of_le (mul-lt-mul_of_pos_right e C2) (le_of_eq (ap (λ (x : ℕ). x * x * (c * c)) (add-one v) ∙ sym (scale (suc v) c)))))

-- ---- the nearest one
no_less : (n q r : ℕ) → n ≤ q * q + q → r * r < n + r → q < r → ⊥
no_less n q zero h k l = absurd (none q l)
  where
    none : (q : ℕ) → q < 0 → ⊥
    none q h = omega arith
no_less n q (suc r) h k l =
    clash n (q * q) q (r * suc r) (suc r * suc r) (suc r) h k (suc-mul r (suc r))
    (le_trans (le_of_eq (sym (mul-suc q q ∙ add_comm (q * q) q ∙ add_comm q (q * q)))) (mul-le-mul (le_of_suc-le-suc l) l))
  where
    clash : (n qq q p rr r : ℕ) → n ≤ qq + q → rr < n + r → rr ≡ p + r → qq + q ≤ p → ⊥
    clash n qq q p rr r a b c d = omega arith

pub near_unique : (n q r : ℕ) → Near n q → Near n r → q ≡ r
near_unique n q r (a, b) (c, d) = le_antisymm (at_most q r b d a c) (at_most r q d b c a)
  where
    at_most : (q r : ℕ) → n ≤ q * q + q → n ≤ r * r + r → q * q < n + q → r * r < n + r → q ≤ r
    at_most q r b d a c = le_of_suc-le-suc (lt_of_not-le (λ (g : suc r ≤ q). no_less n r q d a g))

-- from the whole root: itself, or one more
pub near_down : (n v : ℕ) → 0 < v → Whole n v → n ≤ v * v + v → Near n v
near_down n v P w h = (low n v (v * v) P w.0, h)
  where
    low : (n v x : ℕ) → 0 < v → x ≤ n → x < n + v
    low n v x a b = omega arith

pub near_up : (n v : ℕ) → Whole n v → v * v + v < n → Near n (v + 1)
near_up n v (a, b) h = (fst n (v * v) v ((v + 1) * (v + 1)) (sq_next v) h, snd n ((v + 1) * (v + 1)) v b)
  where
    fst : (n x v y : ℕ) → y ≡ x + v + v + 1 → x + v < n → y < n + (v + 1)
    fst n x v y e h = omega arith

    snd : (n y v : ℕ) → n < y → n ≤ y + (v + 1)
    snd n y v h = omega arith
