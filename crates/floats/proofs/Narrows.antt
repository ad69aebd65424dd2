-- An f64 of a sign, a field and digits, as an f32: the pattern, by where the field lies. Assumes nothing.
use mathlib.Core.Path.{◌≡◌, refl, sym, ap, ◌∙◌, subst}
use mathlib.Core.Logic.{◌⊎◌, inl, inr}
use Prim.Native.Nat.{ℕ, zero, suc, ◌+◌, ◌-◌, ◌*◌, ◌/◌, ◌%◌, ◌^◌, ◌≤◌, ◌<◌, min}
use native.Mathlib.Nat.{pow-suc, mul-mod_left, one-mul, mod-eq_of_lt, eq-or-lt_of_le, le_trans, le_of_eq, lt_of_lt_of_le, mul-one, mul_assoc, mul_comm, mul_right_comm, mul-pos, mul-le-mul_right, mul-lt-mul_of_pos_right}
use native.Mathlib.Omega.{arith}
use mathlib.Core.Bool.{Bool, cond}
use lib.Dec.{T, leb, lit≤}
use lib.Pow.{pow-add, pow_pos, pow_mono, pow-lt}
use lib.Ieee.{Float, nan, inf, fin, Format, binary32, binary64, up, down, round, of_fields, of_bits, to_bits}
use lib.Ieee.Fits.{down_pos}
use lib.Ieee.Exact.{HasValue}
use lib.Ieee.Nearest.{closest, closest_same}
use lib.Ieee.Scale.{round_same}
use Rattle.floats.specs.Floats.{narrowed}
use Rattle.floats.proofs.Grid.{pattern}
use Rattle.floats.proofs.Closest.{closest_none, closest_le, closest_ge}
use Rattle.floats.proofs.Fields.{low_value, mid_value, of_bits_is, nan_bits_lem}

-- narrowing goes by the value, whatever fraction gives it
pub narrowed_at : (f : Format) (x : Float) (s : Bool) (a c : ℕ) → 0 < c → HasValue x s a c → narrowed f x ≡ round f s a c
unfolding narrowed
narrowed_at f nan s a c C v = absurd v
narrowed_at f (inf t) s a c C v = absurd v
narrowed_at f (fin t m e) s a c C v = ap (λ (b : Bool). round f b (m * up e) (down e)) v.0 ∙ round_same f s (m * up e) (down e) a c (down_pos e) C v.1

-- a / d units of the f32, from a value of an f64
at : (x : Float) (s : Bool) (v a d k : ℕ) → HasValue x s v (2 ^ 1074) → 0 < d → v * (d * 2 ^ 149) ≡ a * 2 ^ 1074 → a < 2 ^ (24 + k) * d → (k ≡ 0) ⊎ (2 ^ (23 + k) * d ≤ a)
    → to_bits binary32 (narrowed binary32 x) ≡ cond s (2 ^ 31) 0 + min (k * 2 ^ 23 + closest a (d * 2 ^ k)) (255 * 2 ^ 23)
at x s v a d k h D e hi lo =
    ap (to_bits binary32) (narrowed_at binary32 x s v (2 ^ 1074) (pow_pos 1074) h ∙ round_same binary32 s v (2 ^ 1074) a (d * 2 ^ 149) (pow_pos 1074) (mul-pos D (pow_pos 149)) e)
    ∙ pattern binary32 s a d k D hi lo

-- a normal result, and an overflow
pub high : (s : Bool) (k t : ℕ) → t < 2 ^ 52 → k + 897 < 2047
    → to_bits binary32 (narrowed binary32 (of_fields binary64 s (suc (k + 896)) t)) ≡ cond s (2 ^ 31) 0 + min (k * 2 ^ 23 + closest (2 ^ 52 + t) (2 ^ 29)) (255 * 2 ^ 23)
high s k t T l =
    let m = 2 ^ 52 + t in
    at (of_fields binary64 s (suc (k + 896)) t) s (m * 2 ^ (k + 896)) (m * 2 ^ k) (2 ^ 29) k
    (mid_value binary64 s (k + 896) t (less k l))
    (pow_pos 29)
    (ap (λ (x : ℕ). m * x * (2 ^ 29 * 2 ^ 149)) (pow-add 2 k 896) ∙ ap (λ (x : ℕ). x * (2 ^ 29 * 2 ^ 149)) (sym (mul_assoc m (2 ^ k) (2 ^ 896))) ∙ mul_assoc (m * 2 ^ k) (2 ^ 896) (2 ^ 29 * 2 ^ 149))
    (lt_of_lt_of_le (mul-lt-mul_of_pos_right (full t T) (pow_pos k)) (le_of_eq (turn 24)))
    (inr (le_trans (le_of_eq (sym (turn 23))) (mul-le-mul_right (2 ^ k) (lead t))))
    ∙ ap (λ (x : ℕ). cond s (2 ^ 31) 0 + min (k * 2 ^ 23 + x) (255 * 2 ^ 23))
    (closest_same (m * 2 ^ k) (2 ^ 29 * 2 ^ k) m (2 ^ 29) (mul-pos (pow_pos 29) (pow_pos k)) (pow_pos 29) (mul_assoc m (2 ^ k) (2 ^ 29) ∙ ap (λ (x : ℕ). m * x) (mul_comm (2 ^ k) (2 ^ 29))))
  where
    less : (k : ℕ) → k + 897 < 2047 → suc (k + 896) < 2047
    less k h = omega arith

    full : (t : ℕ) → t < 2 ^ 52 → 2 ^ 52 + t < 2 ^ 53
    full t h = omega arith

    lead : (t : ℕ) → 2 ^ 52 ≤ 2 ^ 52 + t
    lead t = omega arith

    turn : (p : ℕ) → 2 ^ p * 2 ^ 29 * 2 ^ k ≡ 2 ^ (p + k) * 2 ^ 29
    turn p = mul_right_comm (2 ^ p) (2 ^ 29) (2 ^ k) ∙ ap (λ (x : ℕ). x * 2 ^ 29) (sym (pow-add 2 p k))

-- a subnormal result
pub small : (s : Bool) (x t : ℕ) → t < 2 ^ 52 → x < 896
    → to_bits binary32 (narrowed binary32 (of_fields binary64 s (suc x) t)) ≡ cond s (2 ^ 31) 0 + closest (2 ^ 52 + t) (2 ^ (925 - x))
small s x t T l =
    let m = 2 ^ 52 + t in
    let d = 2 ^ (925 - x) in
    let big : 2 ^ 30 ≤ d = pow_mono (far x l) in
    at (of_fields binary64 s (suc x) t) s (m * 2 ^ x) m d 0
    (mid_value binary64 s x t (less x l))
    (pow_pos (925 - x))
    (mul_assoc m (2 ^ x) (d * 2 ^ 149)
    ∙ ap (λ (y : ℕ). m * y) (sym (mul_assoc (2 ^ x) d (2 ^ 149)) ∙ ap (λ (y : ℕ). y * 2 ^ 149) (sym (pow-add 2 x (925 - x)) ∙ ap (λ (y : ℕ). 2 ^ y) (join x l))))
    (under m d (full t T) big)
    (inl refl)
    ∙ ap (λ (y : ℕ). cond s (2 ^ 31) 0 + min (0 * 2 ^ 23 + closest m y) (255 * 2 ^ 23)) (mul-one d)
    ∙ ap (λ (y : ℕ). cond s (2 ^ 31) 0 + y) (uncapped (closest m d) (closest_le m d (2 ^ 24) (pow_pos (925 - x)) (under m d (full t T) big)))
  where
    less : (x : ℕ) → x < 896 → suc x < 2047
    less x h = omega arith

    far : (x : ℕ) → x < 896 → 30 ≤ 925 - x
    far x h = omega arith

    join : (x : ℕ) → x < 896 → x + (925 - x) ≡ 925
    join x h = omega arith

    full : (t : ℕ) → t < 2 ^ 52 → 2 ^ 52 + t < 2 ^ 53
    full t h = omega arith

    under : (m d : ℕ) → m < 2 ^ 53 → 2 ^ 30 ≤ d → m < 2 ^ 24 * d
    under m d h b = omega arith

    uncapped : (q : ℕ) → q ≤ 2 ^ 24 → min (0 * 2 ^ 23 + q) (255 * 2 ^ 23) ≡ q
    uncapped q h = omega arith

-- nothing is left
pub none : (s : Bool) (e t : ℕ) → t < 2 ^ 52 → e < 872 → to_bits binary32 (narrowed binary32 (of_fields binary64 s e t)) ≡ cond s (2 ^ 31) 0 + 0
none s zero t T l =
    at (of_fields binary64 s 0 t) s (t * 2 ^ 0) t (2 ^ 925) 0 (low_value binary64 s t) (pow_pos 925)
    (ap (λ (x : ℕ). x * (2 ^ 925 * 2 ^ 149)) (mul-one t))
    (lt_of_lt_of_le T (lit≤ tt)) (inl refl)
    ∙ ap (λ (x : ℕ). cond s (2 ^ 31) 0 + min (0 * 2 ^ 23 + x) (255 * 2 ^ 23)) (closest_none t (2 ^ 925 * 2 ^ 0) (lt_of_lt_of_le (twice t T) (lit≤ tt)))
  where
    twice : (t : ℕ) → t < 2 ^ 52 → t * 2 < 2 ^ 53
    twice t h = omega arith
none s (suc x) t T l =
    small s x t T (more x l)
    ∙ ap (λ (y : ℕ). cond s (2 ^ 31) 0 + y) (closest_none (2 ^ 52 + t) (2 ^ (925 - x)) (lt_of_lt_of_le (twice t T) (pow_mono (far x l))))
  where
    more : (x : ℕ) → suc x < 872 → x < 896
    more x h = omega arith

    far : (x : ℕ) → suc x < 872 → 54 ≤ 925 - x
    far x h = omega arith

    twice : (t : ℕ) → t < 2 ^ 52 → (2 ^ 52 + t) * 2 < 2 ^ 54
    twice t h = omega arith

-- ---- by the field, as the code has it

one_shl : (k : ℕ) → k < 64 → 1 * 2 ^ k % 2 ^ 64 ≡ 2 ^ k
one_shl k h = ap (λ (x : ℕ). x % 2 ^ 64) (one-mul (2 ^ k)) ∙ mod-eq_of_lt (pow-lt h)

at_inf : (s : Bool) → to_bits binary32 (narrowed binary32 (of_fields binary64 s 2047 0)) ≡ cond s (2 ^ 31) 0 + 255 * 2 ^ 23
unfolding of_fields narrowed to_bits
at_inf s = refl

of_nan : to_bits binary32 (narrowed binary32 nan) ≡ 0x7fc0_0000
unfolding narrowed to_bits
of_nan = refl

pub high_at : (s : Bool) (e t : ℕ) → t < 2 ^ 52 → 897 ≤ e → e < 1151
    → to_bits binary32 (narrowed binary32 (of_fields binary64 s e t)) ≡ cond s (2 ^ 31) 0 + ((e - 897) * 2 ^ 23 + closest (2 ^ 52 + t) (2 ^ 29))
high_at s e t T l h =
    ap (λ (x : ℕ). to_bits binary32 (narrowed binary32 (of_fields binary64 s x t))) (field e l)
    ∙ high s (e - 897) t T (less e h)
    ∙ ap (λ (x : ℕ). cond s (2 ^ 31) 0 + x) (uncapped e (closest (2 ^ 52 + t) (2 ^ 29)) h (closest_le (2 ^ 52 + t) (2 ^ 29) (2 ^ 24) (pow_pos 29) (full t T)))
  where
    field : (e : ℕ) → 897 ≤ e → e ≡ suc (e - 897 + 896)
    field e h = omega arith

    less : (e : ℕ) → e < 1151 → e - 897 + 897 < 2047
    less e h = omega arith

    full : (t : ℕ) → t < 2 ^ 52 → 2 ^ 52 + t < 2 ^ 24 * 2 ^ 29
    full t h = omega arith

    uncapped : (e q : ℕ) → e < 1151 → q ≤ 2 ^ 24 → min ((e - 897) * 2 ^ 23 + q) (255 * 2 ^ 23) ≡ (e - 897) * 2 ^ 23 + q
    uncapped e q h k = omega arith

pub small_at : (s : Bool) (e t : ℕ) → t < 2 ^ 52 → 872 ≤ e → e < 897
    → to_bits binary32 (narrowed binary32 (of_fields binary64 s e t)) ≡ cond s (2 ^ 31) 0 + closest (2 ^ 52 + t) (1 * 2 ^ (926 - e) % 2 ^ 64)
small_at s e t T l h =
    ap (λ (x : ℕ). to_bits binary32 (narrowed binary32 (of_fields binary64 s x t))) (field e l)
    ∙ small s (e - 1) t T (less e h)
    ∙ ap (λ (x : ℕ). cond s (2 ^ 31) 0 + closest (2 ^ 52 + t) x) (ap (λ (x : ℕ). 2 ^ x) (back e l h) ∙ sym (one_shl (926 - e) (fits e l)))
  where
    field : (e : ℕ) → 872 ≤ e → e ≡ suc (e - 1)
    field e h = omega arith

    less : (e : ℕ) → e < 897 → e - 1 < 896
    less e h = omega arith

    back : (e : ℕ) → 872 ≤ e → e < 897 → 925 - (e - 1) ≡ 926 - e
    back e a b = omega arith

    fits : (e : ℕ) → 872 ≤ e → 926 - e < 64
    fits e a = omega arith

pub over_at : (s : Bool) (e t : ℕ) → t < 2 ^ 52 → 1151 ≤ e → e * 2 ^ 52 + t ≤ 2047 * 2 ^ 52
    → to_bits binary32 (narrowed binary32 (of_fields binary64 s e t)) ≡ cond s (2 ^ 31) 0 + 255 * 2 ^ 23
over_at s e t T l h = go (split e t T h)
  where
    split : (e t : ℕ) → t < 2 ^ 52 → e * 2 ^ 52 + t ≤ 2047 * 2 ^ 52 → ((e ≡ 2047) × (t ≡ 0)) ⊎ (e < 2047)
    split e t T h = elim (eq-or-lt_of_le (most e t h)) [ inl a ↦ inl (a, rest e t a h) | inr b ↦ inr b ]
      where
        most : (e t : ℕ) → e * 2 ^ 52 + t ≤ 2047 * 2 ^ 52 → e ≤ 2047
        most e t h = omega arith

        rest : (e t : ℕ) → e ≡ 2047 → e * 2 ^ 52 + t ≤ 2047 * 2 ^ 52 → t ≡ 0
        rest e t a h = omega arith

    field : (e : ℕ) → 1151 ≤ e → e ≡ suc (e - 897 + 896)
    field e h = omega arith

    less : (e : ℕ) → e < 2047 → 1151 ≤ e → e - 897 + 897 < 2047
    less e h l = omega arith

    capped : (e q : ℕ) → 1151 ≤ e → 2 ^ 23 ≤ q → min ((e - 897) * 2 ^ 23 + q) (255 * 2 ^ 23) ≡ 255 * 2 ^ 23
    capped e q h k = omega arith

    some : (t : ℕ) → 2 ^ 23 * 2 ^ 29 ≤ 2 ^ 52 + t
    some t = omega arith

    go : ((e ≡ 2047) × (t ≡ 0)) ⊎ (e < 2047) → to_bits binary32 (narrowed binary32 (of_fields binary64 s e t)) ≡ cond s (2 ^ 31) 0 + 255 * 2 ^ 23
    go (inl p) = ap (λ (x : ℕ). to_bits binary32 (narrowed binary32 (of_fields binary64 s x t))) p.0 ∙ ap (λ (x : ℕ). to_bits binary32 (narrowed binary32 (of_fields binary64 s 2047 x))) p.1 ∙ at_inf s
    go (inr b) =
        ap (λ (x : ℕ). to_bits binary32 (narrowed binary32 (of_fields binary64 s x t))) (field e l)
        ∙ high s (e - 897) t T (less e b l)
        ∙ ap (λ (x : ℕ). cond s (2 ^ 31) 0 + x) (capped e (closest (2 ^ 52 + t) (2 ^ 29)) l (closest_ge (2 ^ 52 + t) (2 ^ 29) (2 ^ 23) (pow_pos 29) (some t)))

-- ---- what the code asks besides
pub shl_pos : (e : ℕ) → 872 ≤ e → 0 < 1 * 2 ^ (926 - e) % 2 ^ 64
shl_pos e h = subst (λ (x : ℕ). 0 < x) (sym (one_shl (926 - e) (fits e h))) (pow_pos (926 - e))
  where
    fits : (e : ℕ) → 872 ≤ e → 926 - e < 64
    fits e a = omega arith

pub shl_even : (e : ℕ) → 872 ≤ e → e < 897 → 1 * 2 ^ (926 - e) % 2 ^ 64 % 2 ≡ 0
shl_even e h l = ap (λ (x : ℕ). x % 2) (one_shl (926 - e) (fits e h) ∙ ap (λ (x : ℕ). 2 ^ x) (some e l) ∙ pow-suc 2 (925 - e)) ∙ mul-mod_left (2 ^ (925 - e)) 2
  where
    fits : (e : ℕ) → 872 ≤ e → 926 - e < 64
    fits e a = omega arith

    some : (e : ℕ) → e < 897 → 926 - e ≡ suc (925 - e)
    some e h = omega arith

pub small_le : (e t r : ℕ) → t < 2 ^ 52 → 872 ≤ e → e < 897 → r ≡ closest (2 ^ 52 + t) (1 * 2 ^ (926 - e) % 2 ^ 64) → r ≤ 0x7f80_0000
small_le e t r T l h q =
    subst (λ (x : ℕ). x ≤ 0x7f80_0000) (sym q)
    (closest_le (2 ^ 52 + t) (1 * 2 ^ (926 - e) % 2 ^ 64) 0x7f80_0000 (shl_pos e l)
    (subst (λ (x : ℕ). 2 ^ 52 + t < 0x7f80_0000 * x) (sym (one_shl (926 - e) (fits e l))) (under (2 ^ (926 - e)) t T (pow_mono (far e h)))))
  where
    fits : (e : ℕ) → 872 ≤ e → 926 - e < 64
    fits e a = omega arith

    far : (e : ℕ) → e < 897 → 30 ≤ 926 - e
    far e h = omega arith

    under : (d t : ℕ) → t < 2 ^ 52 → 2 ^ 30 ≤ d → 2 ^ 52 + t < 0x7f80_0000 * d
    under d t a b = omega arith

pub high_le : (t r : ℕ) → t < 2 ^ 52 → r ≡ closest (2 ^ 52 + t) (2 ^ 29) → r ≤ 2 ^ 24
high_le t r T q = subst (λ (x : ℕ). x ≤ 2 ^ 24) (sym q) (closest_le (2 ^ 52 + t) (2 ^ 29) (2 ^ 24) (pow_pos 29) (full t T))
  where
    full : (t : ℕ) → t < 2 ^ 52 → 2 ^ 52 + t < 2 ^ 24 * 2 ^ 29
    full t h = omega arith

-- ---- the whole pattern
pub is_nan : (b : ℕ) → 2047 * 2 ^ 52 < b % 2 ^ 63 → 0x7fc0_0000 ≡ to_bits binary32 (narrowed binary32 (of_bits binary64 b))
is_nan b h = sym (ap (λ (x : Float). to_bits binary32 (narrowed binary32 x)) (nan_bits_lem binary64 b h) ∙ of_nan)

pub joined : (b : ℕ) (r : ℕ) (s : Bool) → leb (2 ^ 63) b ≡ s → ((s : Bool) → to_bits binary32 (narrowed binary32 (of_fields binary64 s (b % 2 ^ 63 / 2 ^ 52) (b % 2 ^ 52))) ≡ cond s (2 ^ 31) 0 + r)
    → cond s (2 ^ 31) 0 + r ≡ to_bits binary32 (narrowed binary32 (of_bits binary64 b))
joined b r s e h = sym (h s) ∙ ap (λ (x : Bool). to_bits binary32 (narrowed binary32 (of_fields binary64 x (b % 2 ^ 63 / 2 ^ 52) (b % 2 ^ 52)))) (sym e) ∙ sym (ap (λ (x : Float). to_bits binary32 (narrowed binary32 x)) (of_bits_is binary64 b))
