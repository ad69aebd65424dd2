-- Values that are not zero, and products that do not vanish: 2 ^ -i times 2 ^ -j or more, for an i + j of at most `low`, is not rounded to zero. Signs do not matter,
-- and nothing is asked of the values but their size. Assumes nothing.
use mathlib.Core.Path.{◌≡◌, refl, sym, ap, ◌∙◌, subst}
use Prim.Native.Nat.{ℕ, zero, suc, ◌+◌, ◌-◌, ◌*◌, ◌/◌, ◌^◌, ◌≤◌, ◌<◌}
use native.Mathlib.Nat.{zero-lt-suc, le_of_mul-le-mul_right, div-eq_of_lt, mul-lt-mul_of_pos_right, le_trans, le_of_eq, le_of_lt, lt_of_lt_of_le, lt_of_le_of_lt, lt_irrefl, one-mul, mul-one, mul-pos, mul_comm, mul_assoc, mul_right_comm, mul-mul-mul_comm, mul-le-mul, mul-le-mul_right, mul-le-mul_left, le-div_iff_mul-le}
use native.Mathlib.Omega.{arith}
use mathlib.Core.Bool.{Bool, true, false, not, cond, ◌&&◌, ◌||◌, beq, false≢true}
use borrow.Author.Tests.{le-ltb}
use lib.IntN.{ℤ, pos}
use lib.Dec.{T, ltb, ltb→lt, nltb→le, eqb, eqb→eq, leb, leb→le, nleb→lt}
use lib.Pow.{pow-add, pow_pos, pow_mono}
use lib.Ieee.{Float, nan, inf, fin, Format, binary32, binary64, prec, emax, low, up, down, unlike, size, odd, units, round, neg, sum, add, sub, mul, div, eq, level, of_bits}
use lib.Ieee.Digits.{size-lt, size-le, size_reaches}
use lib.Ieee.Bits.{is_false}
use lib.Ieee.Fits.{two, two-le_pos, eq→eqb, up_pos, down_pos, round_is}
use lib.Ieee.Exact.{HasValue, odd_sign}
use lib.Ieee.Nearest.{closest}
use lib.Ieee.Order.{drop, kept}
use lib.Ieee.Positive.{first_pos}
use Rattle.floats.proofs.Closest.{closest_ge, closest_none}

abbrev pub zero_f : Float
zero_f = fin false 0 (pos 0)

pub zero_is : of_bits binary32 0 ≡ zero_f
unfolding of_bits
zero_is = refl

-- ---- x is not zero, of either sign: a NaN and an infinity are not
abbrev pub NotZero : Float → Type 0
NotZero x = eq x zero_f ≡ false

pub nan_lit : NotZero nan
unfolding eq
nan_lit = refl

pub inf_lit : (s : Bool) → NotZero (inf s)
unfolding eq
inf_lit s = refl

pub fin_lit : (s : Bool) (m : ℕ) (e : ℤ) → 0 < m * up e → NotZero (fin s m e)
unfolding eq
fin_lit s m e h = is_false (level s (m * up e * 1) false (0 * 1 * down e)) (off (eqb (m * up e * 1) (0 * 1 * down e)) (beq s false || eqb (m * up e * 1) 0) (λ t. differ (m * up e) (down e) h (eqb→eq (m * up e * 1) (0 * 1 * down e) t)))
  where
    off : (a b : Bool) → (T a → ⊥) → T (not (a && b))
    off true b n = absurd (n tt)
    off false b n = tt

    differ : (a d : ℕ) → 0 < a → a * 1 ≡ 0 * 1 * d → ⊥
    differ a d h e = omega arith

-- ---- a power of two below a fraction stays below what it is rounded to
pub split : (j k : ℕ) → k ≤ j → 2 ^ (j - k) * 2 ^ k ≡ 2 ^ j
split j k h = let e : j - k + k ≡ j = omega arith in sym (pow-add 2 (j - k) k) ∙ ap (λ (x : ℕ). 2 ^ x) e

-- where n / c is 1 or more, one unit of the digits kept is no more than n / c
unit_le : (p n c : ℕ) → 0 < p → 0 < c → c ≤ n → 1 * (c * 2 ^ drop p n c) ≤ n
unit_le p n c P C h =
    let w = n / c in
    let one : 1 ≤ w = (le-div_iff_mul-le C).1 (le_trans (le_of_eq (one-mul c)) h) in
    let some : drop p n c < size w = fewer (size w) p P (lt_zero (size w) (lt_of_le_of_lt one (size-lt w))) in
    le_trans (le_of_eq (one-mul (c * 2 ^ drop p n c) ∙ mul_comm c (2 ^ drop p n c))) ((le-div_iff_mul-le C).0 (size_reaches w (drop p n c) some))
  where
    fewer : (z p : ℕ) → 0 < p → 0 < z → z - p < z
    fewer z p a b = omega arith

    lt_zero : (z : ℕ) → 1 < 2 ^ z → 0 < z
    lt_zero zero h = absurd (lt_irrefl 1 h)
    lt_zero (suc z) h = lt_of_lt_of_le (pow_pos 0) (one_le z)
      where
        one_le : (z : ℕ) → 1 ≤ suc z
        one_le z = omega arith

pub power_below : (p n c j : ℕ) → 0 < p → 0 < c → 2 ^ j * c ≤ n → 2 ^ j ≤ kept p n c * 2 ^ drop p n c
power_below p n c j P C h = go (leb k j) (leb→le k j) (nleb→lt k j)
  where
    k : ℕ
    k = drop p n c

    pos_u : 0 < c * 2 ^ drop p n c
    pos_u = mul-pos C (pow_pos (drop p n c))

    go : (b : Bool) → (T b → drop p n c ≤ j) → (T (not b) → j < drop p n c) → 2 ^ j ≤ kept p n c * 2 ^ drop p n c
    go true a b =
        le_trans (le_of_eq (sym (split j (drop p n c) (a tt))))
        (mul-le-mul_right (2 ^ drop p n c) (closest_ge n (c * 2 ^ drop p n c) (2 ^ (j - drop p n c)) pos_u
        (le_trans (le_of_eq (sym (mul_assoc (2 ^ (j - drop p n c)) c (2 ^ drop p n c)) ∙ mul_right_comm (2 ^ (j - drop p n c)) c (2 ^ drop p n c) ∙ ap (λ (x : ℕ). x * c) (split j (drop p n c) (a tt)))) h)))
    go false a b =
        le_trans (pow_mono (le_of_lt (b tt)))
        (le_trans (le_of_eq (sym (one-mul (2 ^ drop p n c))))
        (mul-le-mul_right (2 ^ drop p n c) (closest_ge n (c * 2 ^ drop p n c) 1 pos_u (unit_le p n c P C (le_trans (le_trans (le_of_eq (sym (one-mul c))) (mul-le-mul_right c (pow_pos j))) h)))))

-- ---- x is 2 ^ -j at least in size, or a NaN, or an infinity
abbrev pub Least : ℕ → Float → Type 0
Least j nan = T true
Least j (inf s) = T true
Least j (fin s m e) = down e ≤ m * up e * 2 ^ j

pub least_lit : (j : ℕ) (x : Float) → Least j x → NotZero x
least_lit j nan h = nan_lit
least_lit j (inf s) h = inf_lit s
least_lit j (fin s m e) h = fin_lit s m e (first_pos (m * up e) (2 ^ j) (lt_of_lt_of_le (down_pos e) h))

cond_least : (j : ℕ) (b : Bool) (x y : Float) → Least j x → Least j y → Least j (cond b x y)
cond_least j true x y h k = h
cond_least j false x y h k = k

pub value_least : (f : Format) (j : ℕ) (x : Float) (s : Bool) (a : ℕ) → j ≤ low f → HasValue x s a (2 ^ low f) → 2 ^ (low f - j) ≤ a → Least j x
value_least f j nan s a J v h = tt
value_least f j (inf t) s a J v h = tt
value_least f j (fin t m e) s a J v h =
    le_of_mul-le-mul_right
    (le_trans (le_of_eq (mul_comm (down e) (2 ^ (low f - j))))
    (le_trans (mul-le-mul_right (down e) h)
    (le_of_eq (sym v.1 ∙ ap (λ (x : ℕ). m * up e * x) (sym (split (low f) j J) ∙ mul_comm (2 ^ (low f - j)) (2 ^ j)) ∙ sym (mul_assoc (m * up e) (2 ^ j) (2 ^ (low f - j)))))))
    (pow_pos (low f - j))

units_least : (f : Format) (j : ℕ) (s : Bool) (q k : ℕ) → j ≤ low f → 2 ^ (low f - j) ≤ q * 2 ^ k → Least j (units f s q k)
unfolding units
units_least f j s q k J h =
    cond_least j (ltb (q * 2 ^ k) (2 ^ (low f + suc (emax f)))) (odd (suc (prec f)) s q k (low f)) (inf s)
    (value_least f j (odd (suc (prec f)) s q k (low f)) s (q * 2 ^ k) J (odd_sign (suc (prec f)) s q k (low f)) h) tt

-- rounding keeps that
pub round_least : (f : Format) (j : ℕ) (s : Bool) (a c : ℕ) → j ≤ low f → 0 < c → c ≤ a * 2 ^ j → Least j (round f s a c)
round_least f j s a c J C h =
    let n = a * 2 ^ low f in
    let p = prec f in
    let big : 2 ^ (low f - j) * c ≤ n =
    le_trans (mul-le-mul_left (2 ^ (low f - j)) h)
    (le_of_eq (mul_comm (2 ^ (low f - j)) (a * 2 ^ j) ∙ mul_assoc a (2 ^ j) (2 ^ (low f - j)) ∙ ap (λ (x : ℕ). a * x) (mul_comm (2 ^ j) (2 ^ (low f - j)) ∙ split (low f) j J))) in
    subst (λ (z : Float). Least j z) (sym (round_is f s a c))
    (units_least f j s (kept p n c) (drop p n c) J (power_below p n c (low f - j) (two-le_pos p (two f)) C big))

-- ---- THE product: 2 ^ -i times 2 ^ -j
pub mul_least : (f : Format) (i j : ℕ) (x y : Float) → i + j ≤ low f → Least i x → Least j y → Least (i + j) (mul f x y)
unfolding mul
mul_least f i j nan y J h k = tt
mul_least f i j (inf s) nan J h k = tt
mul_least f i j (inf s) (inf t) J h k = tt
mul_least f i j (inf s) (fin t n d) J h k = cond_least (i + j) (eqb n 0) nan (inf (unlike s t)) tt tt
mul_least f i j (fin s m e) nan J h k = tt
mul_least f i j (fin s m e) (inf t) J h k = cond_least (i + j) (eqb m 0) nan (inf (unlike s t)) tt tt
mul_least f i j (fin s m e) (fin t n d) J h k =
    round_least f (i + j) (unlike s t) (m * up e * (n * up d)) (down e * down d) J (mul-pos (down_pos e) (down_pos d))
    (le_trans (mul-le-mul h k)
    (le_of_eq (mul-mul-mul_comm (m * up e) (2 ^ i) (n * up d) (2 ^ j) ∙ ap (λ (x : ℕ). m * up e * (n * up d) * x) (sym (pow-add 2 i j)))))

-- ---- x is a NaN, or finite and 2 ^ j at most in size
abbrev pub Most : ℕ → Float → Type 0
Most j nan = T true
Most j (inf s) = ⊥
Most j (fin s m e) = m * up e ≤ 2 ^ j * down e

abbrev pub one_f : Float
one_f = fin false 1 (pos 0)

pub one_is : of_bits binary32 0x3f800000 ≡ one_f
unfolding of_bits
one_is = refl

-- the reciprocal
pub over_least : (f : Format) (j : ℕ) (x : Float) → j ≤ low f → Most j x → Least j (div f one_f x)
unfolding div
over_least f j nan J h = tt
over_least f j (inf s) J h = absurd h
over_least f j (fin t n d) J h = go (eqb n 0) (eqb→eq n 0) (λ e. eq→eqb e)
  where
    not_zero : (n : ℕ) → (n ≡ 0 → ⊥) → 0 < n
    not_zero zero h = absurd (h refl)
    not_zero (suc n) h = zero-lt-suc n

    go : (b : Bool) → (T b → n ≡ 0) → (n ≡ 0 → T b) → Least j (cond b (cond (eqb 1 0) nan (inf (unlike false t))) (round f (unlike false t) (1 * 1 * down d) (n * up d * 1)))
    go true a b = cond_least j (eqb 1 0) nan (inf (unlike false t)) tt tt
    go false a b =
        round_least f j (unlike false t) (1 * 1 * down d) (n * up d * 1) J (mul-pos (mul-pos (not_zero n b) (up_pos d)) (pow_pos 0))
        (le_trans (le_of_eq (mul-one (n * up d))) (le_trans h (le_of_eq (mul_comm (2 ^ j) (down d) ∙ ap (λ (x : ℕ). x * 2 ^ j) (sym (one-mul (down d)))))))

-- ---- a square that vanishes: one of less than 2 ^ -75
abbrev pub faint : Float → Bool
faint nan = false
faint (inf s) = false
faint (fin s m e) = ltb (m * up e * 2 ^ 75) (down e)

pub not_faint : (x : Float) → faint x ≡ false → Least 75 x
not_faint nan h = tt
not_faint (inf s) h = tt
not_faint (fin s m e) h = nltb→le (m * up e * 2 ^ 75) (down e) (subst (λ (b : Bool). T (not b)) (sym h) tt)

size_none : (p : ℕ) → size 0 - p ≡ 0
size_none p = zero_sub (size 0) p (size-le 0 0 (pow_pos 0))
  where
    zero_sub : (z p : ℕ) → z ≤ 0 → z - p ≡ 0
    zero_sub z p h = omega arith

round_none : (f : Format) (s : Bool) (a c : ℕ) → a * 2 ^ low f * 2 < c → round f s a c ≡ fin s 0 (pos 0)
unfolding units
round_none f s a c h =
    let n = a * 2 ^ low f in
    let l : n < c = less n c h in
    let k : drop (prec f) n c ≡ 0 = ap (λ (x : ℕ). size x - prec f) (div-eq_of_lt l) ∙ size_none (prec f) in
    let q : closest n (c * 2 ^ 0) ≡ 0 = closest_none n (c * 1) (lt_of_lt_of_le h (le_of_eq (sym (mul-one c)))) in
    round_is f s a c ∙ ap (λ (z : ℕ). units f s (closest n (c * 2 ^ z)) z) k ∙ ap (λ (z : ℕ). units f s z 0) q ∙ last f s
  where
    less : (n c : ℕ) → n * 2 < c → n < c
    less n c h = omega arith

    last : (f : Format) (s : Bool) → units f s 0 0 ≡ fin s 0 (pos 0)
    last binary32 s = refl
    last binary64 s = refl

-- a finite x less itself is +0
pub sub_self : (s : Bool) (m : ℕ) (e : ℤ) → sub binary32 (fin s m e) (fin s m e) ≡ zero_f
unfolding sub add neg sum
sub_self s m e = go s (le-ltb (m * up e * down e) (m * up e * down e) (omega arith))
  where
    none : (a : ℕ) → a - a ≡ 0
    none a = omega arith

    last : (t : Bool) (a c : ℕ) → 0 < c → t ≡ false → round binary32 t (a - a) c ≡ zero_f
    last t a c C e = ap (λ (b : Bool). round binary32 b (a - a) c) e ∙ ap (λ (d : ℕ). round binary32 false d c) (none a) ∙ round_none binary32 false 0 c C

    go : (s : Bool) → ltb (m * up e * down e) (m * up e * down e) ≡ false
        → cond (beq s (not s)) (round binary32 s (m * up e * down e + m * up e * down e) (down e * down e))
        (cond (ltb (m * up e * down e) (m * up e * down e)) (round binary32 (not s) (m * up e * down e - m * up e * down e) (down e * down e))
        (round binary32 (s && ltb (m * up e * down e) (m * up e * down e)) (m * up e * down e - m * up e * down e) (down e * down e))) ≡ zero_f
    go true h = rw h (last false (m * up e * down e) (down e * down e) (mul-pos (down_pos e) (down_pos e)) refl)
    go false h = rw h (last false (m * up e * down e) (down e * down e) (mul-pos (down_pos e) (down_pos e)) refl)

pub faint_square : (x : Float) → faint x ≡ true → mul binary32 x x ≡ zero_f
unfolding mul
faint_square nan h = absurd (false≢true h)
faint_square (inf s) h = absurd (false≢true h)
faint_square (fin s m e) h = ap (λ (b : Bool). round binary32 b (m * up e * (m * up e)) (down e * down e)) (same s) ∙ round_none binary32 false (m * up e * (m * up e)) (down e * down e) small
  where
    same : (s : Bool) → unlike s s ≡ false
    same true = refl
    same false = refl

    l : m * up e * 2 ^ 75 < down e
    l = ltb→lt (m * up e * 2 ^ 75) (down e) (subst T (sym h) tt)

    small : m * up e * (m * up e) * 2 ^ 149 * 2 < down e * down e
    small =
        lt_of_le_of_lt (le_of_eq (mul_assoc (m * up e * (m * up e)) (2 ^ 149) 2 ∙ mul-mul-mul_comm (m * up e) (m * up e) (2 ^ 75) (2 ^ 75)))
        (lt_of_le_of_lt (mul-le-mul_left (m * up e * 2 ^ 75) (le_of_lt l)) (mul-lt-mul_of_pos_right l (down_pos e)))
