-- The square root of an f32 by its pattern: what the functions of src/root.rt ask. Assumes nothing.
use mathlib.Core.Path.{◌≡◌, refl, sym, ap, ◌∙◌, subst}
use mathlib.Core.Logic.{◌⊎◌, inl, inr}
use Prim.Native.Nat.{ℕ, zero, suc, ◌+◌, ◌-◌, ◌*◌, ◌/◌, ◌%◌, ◌^◌, ◌≤◌, ◌<◌, min}
use native.Mathlib.Nat.{le_trans, le_of_eq, le_of_suc-le-suc, lt_of_lt_of_le, lt_of_le_of_lt, mul-one, mul_assoc, mul_comm, mul-add, add-mul, mul-pos, mul-le-mul, mul-le-mul_right, mul-lt-mul_of_pos_right, mod-eq_of_lt, eq-or-lt_of_le, suc-add}
use native.Mathlib.Numerals.{add-one}
use native.Mathlib.Omega.{arith}
use mathlib.Core.Bool.{Bool, true, false, not, ◌&&◌, true≢false}
use lib.Dec.{T, leb, leb→le, nleb→lt, ltb, ltb→lt, nltb→le, le→leb, lit≤}
use lib.Arith.{lt→nleb}
use lib.Pow.{pow-add, pow_pos, pow_mono, shl_exact}
use lib.Count.{count_leading_zeros, leading_top}
use lib.Ieee.{Float, nan, inf, fin, binary32, of_fields, of_bits, to_bits, is_nan, ne}
use lib.Ieee.Bits.{is_true, is_false}
use lib.Ieee.Exact.{HasValue}
use Rattle.floats.specs.Floats.{floor_root, nearest_root, root}
use Rattle.floats.proofs.Fields.{of_bits_is, low_value, mid_value, nan_bits_lem}
use Rattle.floats.proofs.Grid.{pow_lt_back}
use Rattle.floats.proofs.Squares.{Near, floor_root_is, sq_lt}
use Rattle.floats.proofs.Roots.{root_at, root_negative, near_pattern}

-- ---- no NaN: a float that equals itself
pub same_no_nan : (x : Float) → ne x x ≡ false → T (not (is_nan x))
unfolding ne is_nan
same_no_nan nan e = absurd (true≢false e)
same_no_nan (inf s) e = tt
same_no_nan (fin s m d) e = tt

-- ---- m * 2 ^ (23 + g % 2), with m of 24 digits
module _ (m g : ℕ) (lo : 2 ^ 23 ≤ m) (hi : m < 2 ^ 24) where
  shift_le : 23 + g % 2 ≤ 24
  shift_le = omega arith

  pub scaled_is : m * 2 ^ (23 + g % 2) % 2 ^ 64 ≡ m * 2 ^ (23 + g % 2)
  scaled_is = shl_exact 24 (23 + g % 2) 64 hi (omega arith)

  pub scaled_lt : m * 2 ^ (23 + g % 2) < 2 ^ 48
  scaled_lt = lt_of_lt_of_le (mul-lt-mul_of_pos_right hi (pow_pos (23 + g % 2))) (mul-le-mul {n₁ = 2 ^ 24} (le_of_eq refl) (pow_mono shift_le))

  pub scaled_ge : 2 ^ 46 ≤ m * 2 ^ (23 + g % 2)
  scaled_ge = mul-le-mul {n₁ = 2 ^ 23} {m₁ = 2 ^ 23} lo (pow_mono (from (g % 2)))
    where
      from : (x : ℕ) → 23 ≤ 23 + x
      from x = omega arith

  pub positive_is : (q : ℕ) → 2 ≤ g → g < 400 → Near (m * 2 ^ (23 + g % 2)) q → q ≤ 2 ^ 24 → (g / 2 - 1) * 2 ^ 23 + q ≡ to_bits binary32 (nearest_root binary32 (m * 2 ^ (g + 21)))
  positive_is q G H n Q =
      let k = g / 2 - 1 in
      let x = m * 2 ^ (23 + g % 2) in
      let w = floor_root_is x in
      sym
      (ap (λ (y : ℕ). to_bits binary32 (nearest_root binary32 y)) (sym (mul_assoc m (2 ^ (23 + g % 2)) (2 ^ k * 2 ^ k) ∙ ap (λ (y : ℕ). m * y) (ap (λ (y : ℕ). 2 ^ (23 + g % 2) * y) (sym (pow-add 2 k k)) ∙ sym (pow-add 2 (23 + g % 2) (k + k)) ∙ ap (λ (y : ℕ). 2 ^ y) (split g G))))
      ∙ near_pattern binary32 x k (floor_root x) w
      (le_of_suc-le-suc (subst (λ (y : ℕ). 2 ^ 23 < y) (add-one (floor_root x)) (sq_lt (2 ^ 23) (floor_root x + 1) (lt_of_le_of_lt scaled_ge w.1))))
      (sq_lt (floor_root x) (2 ^ 24) (lt_of_le_of_lt w.0 scaled_lt))
      q n
      ∙ uncapped g q H Q)
    where
      split : (g : ℕ) → 2 ≤ g → 23 + g % 2 + (g / 2 - 1 + (g / 2 - 1)) ≡ g + 21
      split g h = omega arith

      uncapped : (g q : ℕ) → g < 400 → q ≤ 2 ^ 24 → min ((g / 2 - 1) * 2 ^ 23 + q) (255 * 2 ^ 23) ≡ (g / 2 - 1) * 2 ^ 23 + q
      uncapped g q a b = omega arith

-- ---- from a pattern
below_sign : (b : ℕ) → b < 2 ^ 31 → of_bits binary32 b ≡ of_fields binary32 false (b / 2 ^ 23) (b % 2 ^ 23)
below_sign b h =
    of_bits_is binary32 b
    ∙ ap (λ (s : Bool). of_fields binary32 s (b % 2 ^ 31 / 2 ^ 23) (b % 2 ^ 23)) (is_false (leb (2 ^ 31) b) (lt→nleb (2 ^ 31) b h))
    ∙ ap (λ (x : ℕ). of_fields binary32 false (x / 2 ^ 23) (b % 2 ^ 23)) (mod-eq_of_lt h)

-- its value, in smallest values: below the normal range, and in it
pub small_value : (b : ℕ) → b < 2 ^ 23 → HasValue (of_bits binary32 b) false (b * 2 ^ 0) (2 ^ 149)
small_value b l =
    subst (λ (y : Float). HasValue y false (b * 2 ^ 0) (2 ^ 149))
    (sym (below_sign b (lt_of_lt_of_le l (lit≤ tt)) ∙ ap (λ (y : ℕ). of_fields binary32 false y (b % 2 ^ 23)) (none b l) ∙ ap (λ (y : ℕ). of_fields binary32 false 0 y) (mod-eq_of_lt l)))
    (low_value binary32 false b)
  where
    none : (b : ℕ) → b < 2 ^ 23 → b / 2 ^ 23 ≡ 0
    none b h = omega arith

pub normal_value : (b : ℕ) → 2 ^ 23 ≤ b → b < 255 * 2 ^ 23
    → HasValue (of_bits binary32 b) false ((2 ^ 23 + b % 2 ^ 23) * 2 ^ (b / 2 ^ 23 - 1)) (2 ^ 149)
normal_value b lo hi =
    let x = b / 2 ^ 23 - 1 in
    let t = b % 2 ^ 23 in
    subst (λ (y : Float). HasValue y false ((2 ^ 23 + t) * 2 ^ x) (2 ^ 149))
    (sym (below_sign b (under b hi) ∙ ap (λ (y : ℕ). of_fields binary32 false y t) (field b lo)))
    (mid_value binary32 false x t (less b hi lo))
  where
    under : (b : ℕ) → b < 255 * 2 ^ 23 → b < 2 ^ 31
    under b h = omega arith

    field : (b : ℕ) → 2 ^ 23 ≤ b → b / 2 ^ 23 ≡ suc (b / 2 ^ 23 - 1)
    field b h = omega arith

    less : (b : ℕ) → b < 255 * 2 ^ 23 → 2 ^ 23 ≤ b → suc (b / 2 ^ 23 - 1) < 255
    less b h l = omega arith

-- a number of 24 digits and a power, from one number that holds both
pub split_is : (t m g : ℕ) → t % 2 ^ 23 + 2 ^ 23 ≡ m → t / 2 ^ 23 ≡ g → to_bits binary32 (nearest_root binary32 ((t % 2 ^ 23 + 2 ^ 23) * 2 ^ (t / 2 ^ 23 + 21))) ≡ to_bits binary32 (nearest_root binary32 (m * 2 ^ (g + 21)))
split_is t m g p q = ap (λ (x : ℕ). to_bits binary32 (nearest_root binary32 (x * 2 ^ (t / 2 ^ 23 + 21)))) p ∙ ap (λ (x : ℕ). to_bits binary32 (nearest_root binary32 (m * 2 ^ (x + 21)))) q

pub normal_is : (b r : ℕ) → 2 ^ 23 ≤ b → b < 255 * 2 ^ 23 → r ≡ to_bits binary32 (nearest_root binary32 ((b % 2 ^ 23 + 2 ^ 23) * 2 ^ (b / 2 ^ 23 + 127 + 21)))
    → r ≡ to_bits binary32 (root binary32 (of_bits binary32 b))
normal_is b r lo hi h =
    let x = b / 2 ^ 23 - 1 in
    let t = b % 2 ^ 23 in
    let v : HasValue (of_bits binary32 b) false ((2 ^ 23 + t) * 2 ^ x) (2 ^ 149) = normal_value b lo hi in
    h
    ∙ sym (ap (to_bits binary32) (root_at binary32 (of_bits binary32 b) ((2 ^ 23 + t) * 2 ^ x) v (mul-pos (some t) (pow_pos x))
    ∙ ap (nearest_root binary32) (mul_assoc (2 ^ 23 + t) (2 ^ x) (2 ^ 149) ∙ ap (λ (y : ℕ). (2 ^ 23 + t) * y) (sym (pow-add 2 x 149) ∙ ap (λ (y : ℕ). 2 ^ y) (same b lo)) ∙ ap (λ (y : ℕ). y * 2 ^ (b / 2 ^ 23 + 127 + 21)) (swap t))))
  where
    same : (b : ℕ) → 2 ^ 23 ≤ b → b / 2 ^ 23 - 1 + 149 ≡ b / 2 ^ 23 + 127 + 21
    same b h = omega arith

    some : (t : ℕ) → 0 < 2 ^ 23 + t
    some t = omega arith

    swap : (t : ℕ) → 2 ^ 23 + t ≡ t + 2 ^ 23
    swap t = omega arith

-- ---- near one
-- 2 ^ 23 + j and 2 ^ 24 - j are the nearest roots, where j is at most 2 ^ 11 and its square so small that it is rounded away
square : (a j : ℕ) → (a + j) * (a + j) ≡ a * a + a * j + (a * j + j * j)
square a j = mul-add (a + j) a j ∙ sum (add-mul a j a ∙ ap (λ (x : ℕ). a * a + x) (mul_comm j a)) (add-mul a j j)
  where
    sum : {w x y z : ℕ} → w ≡ x → y ≡ z → w + y ≡ x + z
    sum p q = omega arith

small_square : (j : ℕ) → j ≤ 2048 → j * j ≤ 2048 * 2048
small_square j h = mul-le-mul h h

above_one : (k : ℕ) → k ≤ 4096 → Near ((k + 2 ^ 23) * 2 ^ 23) (2 ^ 23 + k / 2)
above_one k h = go (k / 2) (square (2 ^ 23) (k / 2)) (small_square (k / 2) (omega arith)) (omega arith) (omega arith)
  where
    go : (j : ℕ) → (2 ^ 23 + j) * (2 ^ 23 + j) ≡ 2 ^ 23 * 2 ^ 23 + 2 ^ 23 * j + (2 ^ 23 * j + j * j) → j * j ≤ 2048 * 2048 → 2 * j ≤ k → k ≤ 2 * j + 1 → Near ((k + 2 ^ 23) * 2 ^ 23) (2 ^ 23 + j)
    go j s t a b = (omega arith, omega arith)

below_one : (r j k : ℕ) → r + j ≡ 2 ^ 24 → k ≤ 2 * j → 2 * j ≤ k + 1 → k ≤ 4096 → Near ((2 ^ 24 - k) * 2 ^ 24) r
below_one r j k e a b h =
    go (square r j) (ap (λ (x : ℕ). x * x) e) (sym (add-mul r j j) ∙ ap (λ (x : ℕ). x * j) e) (small_square j (omega arith)) (root_least j)
  where
    root_least : (j : ℕ) → j ≤ j * j
    root_least zero = omega arith
    root_least (suc j) = le_trans (le_of_eq (sym (mul-one (suc j)))) (mul-le-mul {n₁ = suc j} (le_of_eq refl) (omega arith))

    go : (r + j) * (r + j) ≡ r * r + r * j + (r * j + j * j) → (r + j) * (r + j) ≡ 2 ^ 24 * 2 ^ 24 → r * j + j * j ≡ 2 ^ 24 * j → j * j ≤ 2048 * 2048 → j ≤ j * j → Near ((2 ^ 24 - k) * 2 ^ 24) r
    go s w u t l = (omega arith, omega arith)

pub near_one_is : (b : ℕ) → 0x3f7f_f000 ≤ b → b ≤ 0x3f80_1000 → (b + 0x3f80_0000) / 2 ≡ to_bits binary32 (root binary32 (of_bits binary32 b))
near_one_is b lo hi = normal_is b ((b + 0x3f80_0000) / 2) (omega arith) (omega arith) (go (leb (127 * 2 ^ 23) b) (leb→le (127 * 2 ^ 23) b) (nleb→lt (127 * 2 ^ 23) b))
  where
    m : ℕ
    m = b % 2 ^ 23 + 2 ^ 23

    to : (g q : ℕ) → b / 2 ^ 23 + 127 ≡ g → 2 ≤ g → g < 400 → Near (m * 2 ^ (23 + g % 2)) q → q ≤ 2 ^ 24 → (g / 2 - 1) * 2 ^ 23 + q ≡ (b + 0x3f80_0000) / 2
        → (b + 0x3f80_0000) / 2 ≡ to_bits binary32 (nearest_root binary32 (m * 2 ^ (b / 2 ^ 23 + 127 + 21)))
    to g q e G H n Q s = sym s ∙ positive_is m g (omega arith) (omega arith) q G H n Q ∙ ap (λ (x : ℕ). to_bits binary32 (nearest_root binary32 (m * 2 ^ (x + 21)))) (sym e)

    go : (t : Bool) → (T t → 127 * 2 ^ 23 ≤ b) → (T (not t) → b < 127 * 2 ^ 23) → (b + 0x3f80_0000) / 2 ≡ to_bits binary32 (nearest_root binary32 (m * 2 ^ (b / 2 ^ 23 + 127 + 21)))
    go true p q =
        let l = p tt in
        to 254 (2 ^ 23 + b % 2 ^ 23 / 2) (omega arith) (omega arith) (omega arith) (above_one (b % 2 ^ 23) (omega arith)) (omega arith) (omega arith)
    go false p q =
        let l = q tt in
        let k : ℕ = 127 * 2 ^ 23 - b in
        to 253 (2 ^ 24 - (k + 1) / 2) (omega arith) (omega arith) (omega arith)
        (subst (λ (x : ℕ). Near (x * 2 ^ 24) (2 ^ 24 - (k + 1) / 2)) (omega arith) (below_one (2 ^ 24 - (k + 1) / 2) ((k + 1) / 2) k (omega arith) (omega arith) (omega arith) (omega arith)))
        (omega arith) (omega arith)

pub between_is : (b : ℕ) → leb 0x3f7f_f000 b && leb b 0x3f80_1000 ≡ true → (0x3f7f_f000 ≤ b) × (b ≤ 0x3f80_1000)
between_is b e = go (leb 0x3f7f_f000 b) (leb b 0x3f80_1000) (leb→le 0x3f7f_f000 b) (leb→le b 0x3f80_1000) e
  where
    go : (s t : Bool) → (T s → 0x3f7f_f000 ≤ b) → (T t → b ≤ 0x3f80_1000) → s && t ≡ true → (0x3f7f_f000 ≤ b) × (b ≤ 0x3f80_1000)
    go true true p q e = (p tt, q tt)
    go true false p q e = absurd (true≢false (sym e))
    go false t p q e = absurd (true≢false (sym e))

-- ---- below the normal range
-- b has 32 - z digits, so b * 2 ^ (z - 8) has 24
shifted : (b : ℕ) → 0 < b → b < 2 ^ 23 → (8 ≤ count_leading_zeros 32 b) × (count_leading_zeros 32 b ≤ 31) × (2 ^ 23 ≤ b * 2 ^ (count_leading_zeros 32 b - 8)) × (b * 2 ^ (count_leading_zeros 32 b - 8) < 2 ^ 24)
shifted b h l =
    let z = count_leading_zeros 32 b in
    let k = leading_top 32 b h (wide b l) in
    let j = k.0 in
    let top_j : j < 23 = pow_lt_back j 23 (lt_of_le_of_lt k.2 l) in (
      few z j k.1 top_j,
      most z j k.1,
      le_trans (le_of_eq (sum j (z - 8) 23 (low_sum z j k.1 top_j))) (mul-le-mul_right (2 ^ (z - 8)) k.2),
      lt_of_lt_of_le (mul-lt-mul_of_pos_right k.3 (pow_pos (z - 8))) (le_of_eq (sym (sum (suc j) (z - 8) 24 (ap suc (low_sum z j k.1 top_j) ∙ sym (suc-add j (z - 8)))))),
    )
  where
    wide : (b : ℕ) → b < 2 ^ 23 → b < 2 ^ 32
    wide b h = omega arith

    few : (z j : ℕ) → z + suc j ≡ 32 → j < 23 → 8 ≤ z
    few z j e h = omega arith

    most : (z j : ℕ) → z + suc j ≡ 32 → z ≤ 31
    most z j e = omega arith

    low_sum : (z j : ℕ) → z + suc j ≡ 32 → j < 23 → 23 ≡ j + (z - 8)
    low_sum z j e h = omega arith

    sum : (a c n : ℕ) → n ≡ a + c → 2 ^ n ≡ 2 ^ a * 2 ^ c
    sum a c n e = ap (λ (x : ℕ). 2 ^ x) e ∙ pow-add 2 a c

module _ (b : ℕ) (h : 0 < b) (l : b < 2 ^ 23) where
  abbrev pub lift : ℕ
  lift = count_leading_zeros 32 b - 8

  pub lift_ge : 8 ≤ count_leading_zeros 32 b
  lift_ge = (shifted b h l).0

  pub lift_le : count_leading_zeros 32 b ≤ 31
  lift_le = (shifted b h l).1

  pub lifted_is : b * 2 ^ (count_leading_zeros 32 b - 8) % 2 ^ 64 ≡ b * 2 ^ (count_leading_zeros 32 b - 8)
  lifted_is = mod-eq_of_lt (lt_of_lt_of_le (shifted b h l).3 (lit≤ tt))

  pub lifted_ge : 2 ^ 23 ≤ b * 2 ^ (count_leading_zeros 32 b - 8) % 2 ^ 64
  lifted_ge = subst (λ (x : ℕ). 2 ^ 23 ≤ x) (sym lifted_is) (shifted b h l).2

  pub lifted_lt : b * 2 ^ (count_leading_zeros 32 b - 8) % 2 ^ 64 < 2 ^ 24
  lifted_lt = subst (λ (x : ℕ). x < 2 ^ 24) (sym lifted_is) (shifted b h l).3

  pub small_is : (r : ℕ) → r ≡ to_bits binary32 (nearest_root binary32 (b * 2 ^ (count_leading_zeros 32 b - 8) % 2 ^ 64 * 2 ^ (128 - (count_leading_zeros 32 b - 8) + 21))) → r ≡ to_bits binary32 (root binary32 (of_bits binary32 b))
  small_is r e =
      let s = count_leading_zeros 32 b - 8 in
      let v : HasValue (of_bits binary32 b) false (b * 2 ^ 0) (2 ^ 149) = small_value b l in
      e
      ∙ sym (ap (to_bits binary32) (root_at binary32 (of_bits binary32 b) (b * 2 ^ 0) v (mul-pos h (pow_pos 0))
      ∙ ap (nearest_root binary32) (ap (λ (y : ℕ). y * 2 ^ 149) (mul-one b) ∙ sym (ap (λ (y : ℕ). y * 2 ^ (128 - s + 21)) lifted_is ∙ mul_assoc b (2 ^ s) (2 ^ (128 - s + 21)) ∙ ap (λ (y : ℕ). b * y) (sym (pow-add 2 s (128 - s + 21)) ∙ ap (λ (y : ℕ). 2 ^ y) (join (count_leading_zeros 32 b) lift_le))))))
    where
      join : (z : ℕ) → z ≤ 31 → z - 8 + (128 - (z - 8) + 21) ≡ 149
      join z h = omega arith

-- ---- the rest
pub at_zero : 0 ≡ to_bits binary32 (root binary32 (of_bits binary32 0))
unfolding root to_bits of_bits
at_zero = refl

pub at_minus_zero : 0x8000_0000 ≡ to_bits binary32 (root binary32 (of_bits binary32 0x8000_0000))
unfolding root to_bits of_bits
at_minus_zero = refl

pub at_inf : 0x7f80_0000 ≡ to_bits binary32 (root binary32 (of_bits binary32 0x7f80_0000))
unfolding root to_bits of_bits
at_inf = refl

of_nan : to_bits binary32 (root binary32 nan) ≡ 0x7fc0_0000
unfolding root to_bits
of_nan = refl

of_minus_inf : to_bits binary32 (root binary32 (of_fields binary32 true 255 0)) ≡ 0x7fc0_0000
unfolding root to_bits of_fields
of_minus_inf = refl

bits_nan : to_bits binary32 nan ≡ 0x7fc0_0000
unfolding to_bits
bits_nan = refl

pub no_root : (b : ℕ) → b < 2 ^ 32 → 255 * 2 ^ 23 < b → (b ≡ 2 ^ 31 → ⊥) → 0x7fc0_0000 ≡ to_bits binary32 (root binary32 (of_bits binary32 b))
no_root b w h n = go (ltb (255 * 2 ^ 23) (b % 2 ^ 31)) (ltb→lt (255 * 2 ^ 23) (b % 2 ^ 31)) (nltb→le (255 * 2 ^ 23) (b % 2 ^ 31))
  where
    a : ℕ
    a = b % 2 ^ 31

    sign : (b : ℕ) → 255 * 2 ^ 23 < b → b % 2 ^ 31 ≤ 255 * 2 ^ 23 → 2 ^ 31 ≤ b
    sign b h k = omega arith

    rest : (b : ℕ) → b < 2 ^ 32 → (b ≡ 2 ^ 31 → ⊥) → 2 ^ 31 ≤ b → 0 < b % 2 ^ 31
    rest b w n h = omega arith

    digits : (b : ℕ) → b % 2 ^ 31 % 2 ^ 23 ≡ b % 2 ^ 23
    digits b = omega arith

    minus : 2 ^ 31 ≤ b → of_bits binary32 b ≡ of_fields binary32 true (a / 2 ^ 23) (a % 2 ^ 23)
    minus l = of_bits_is binary32 b ∙ ap (λ (s : Bool). of_fields binary32 s (a / 2 ^ 23) (b % 2 ^ 23)) (is_true (leb (2 ^ 31) b) (le→leb (2 ^ 31) b l)) ∙ ap (λ (t : ℕ). of_fields binary32 true (a / 2 ^ 23) t) (sym (digits b))

    fields : (x : ℕ) → 0 < x → x ≤ 255 * 2 ^ 23 → (e : ℕ) → x / 2 ^ 23 ≡ e → to_bits binary32 (root binary32 (of_fields binary32 true e (x % 2 ^ 23))) ≡ 0x7fc0_0000
    fields x p u zero e = ap (to_bits binary32) (root_negative binary32 (of_fields binary32 true 0 (x % 2 ^ 23)) (x % 2 ^ 23 * 2 ^ 0) (low_value binary32 true (x % 2 ^ 23)) (mul-pos (left x p e) (pow_pos 0))) ∙ bits_nan
      where
        left : (x : ℕ) → 0 < x → x / 2 ^ 23 ≡ 0 → 0 < x % 2 ^ 23
        left x p e = omega arith
    fields x p u (suc e) q = near (eq-or-lt_of_le (most x (suc e) u q))
      where
        most : (x e : ℕ) → x ≤ 255 * 2 ^ 23 → x / 2 ^ 23 ≡ e → e ≤ 255
        most x e u q = omega arith

        none : (x e : ℕ) → x ≤ 255 * 2 ^ 23 → x / 2 ^ 23 ≡ e → e ≡ 255 → x % 2 ^ 23 ≡ 0
        none x e u q r = omega arith

        some : (t : ℕ) → 0 < 2 ^ 23 + t
        some t = omega arith

        near : (suc e ≡ 255) ⊎ (suc e < 255) → to_bits binary32 (root binary32 (of_fields binary32 true (suc e) (x % 2 ^ 23))) ≡ 0x7fc0_0000
        near (inl r) = ap (λ (y : ℕ). to_bits binary32 (root binary32 (of_fields binary32 true y (x % 2 ^ 23)))) r ∙ ap (λ (y : ℕ). to_bits binary32 (root binary32 (of_fields binary32 true 255 y))) (none x (suc e) u q r) ∙ of_minus_inf
        near (inr r) = ap (to_bits binary32) (root_negative binary32 (of_fields binary32 true (suc e) (x % 2 ^ 23)) ((2 ^ 23 + x % 2 ^ 23) * 2 ^ e) (mid_value binary32 true e (x % 2 ^ 23) r) (mul-pos (some (x % 2 ^ 23)) (pow_pos e))) ∙ bits_nan

    go : (t : Bool) → (T t → 255 * 2 ^ 23 < a) → (T (not t) → a ≤ 255 * 2 ^ 23) → 0x7fc0_0000 ≡ to_bits binary32 (root binary32 (of_bits binary32 b))
    go true p q = sym (ap (λ (x : Float). to_bits binary32 (root binary32 x)) (nan_bits_lem binary32 b (p tt)) ∙ of_nan)
    go false p q =
        let l : 2 ^ 31 ≤ b = sign b h (q tt) in
        sym (ap (λ (x : Float). to_bits binary32 (root binary32 x)) (minus l) ∙ fields a (rest b w n l) (q tt) (a / 2 ^ 23) refl)
