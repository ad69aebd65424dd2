-- A float of a format, times 1, is itself: its own fraction rounds to itself. Assumes nothing.
use Prim.Native.Nat.{ℕ, zero, suc, ◌+◌, ◌*◌, ◌-◌, ◌/◌, ◌%◌, ◌^◌, ◌<◌, ◌≤◌}
use mathlib.Core.Bool.{Bool, true, false, cond, ◌&&◌}
use mathlib.Core.Path.{◌≡◌, refl, sym, ap, ◌∙◌, subst}
use native.Mathlib.Nat.{mul_assoc, mul_comm, mul-one, mul-pos, mul_right_comm, one-mul, zero-mul, mul-lt-mul_of_pos_right, lt_of_mul-lt-mul_right}
use native.Mathlib.Omega.{arith}
use lib.Dec.{T, eqb, ltb, leb, ltb→lt, leb→le, lit<}
use borrow.Author.Tests.{leb-true, leb-false}
use lib.Ieee.{Float, nan, inf, fin, Format, prec, emax, low, up, down, unlike, round, mul, fits, to_bits, of_bits, top, hid, size}
use lib.Ieee.Bits.{of_bits-to_bits}
use lib.Ieee.Exact.{HasValue, round_exact}
use lib.Ieee.Fits.{down_pos, round-fits, and_l, and_r}
use lib.Ieee.Nearest.{div_same}
use lib.Ieee.Scale.{round_same}
use lib.IntN.{ℤ, pos, negsuc}
use lib.Pow.{pow-add, pow_pos, pow-lt}

-- the bits are by the value
same_bits : (f : Format) (x : Float) (s : Bool) (m : ℕ) (e : ℤ) → HasValue x s (m * up e) (down e) → to_bits f x ≡ to_bits f (fin s m e)
unfolding to_bits
same_bits f nan s m e v = absurd v
same_bits f (inf t) s m e v = absurd v
same_bits f (fin t n g) s m e v =
    let same : n * up g * 2 ^ low f / down g ≡ m * up e * 2 ^ low f / down e =
    div_same (n * up g * 2 ^ low f) (down g) (m * up e * 2 ^ low f) (down e) (down_pos g) (down_pos e)
    (mul_right_comm (n * up g) (2 ^ low f) (down e) ∙ ap (λ (x : ℕ). x * 2 ^ low f) v.1 ∙ mul_right_comm (m * up e) (down g) (2 ^ low f)) in
    ap (λ (b : Bool). whole b (n * up g * 2 ^ low f / down g)) v.0 ∙ ap (whole s) same
  where
    whole : Bool → ℕ → ℕ
    whole b w = cond b (top f) 0 + (size w - prec f) * hid f + w / 2 ^ (size w - prec f)

-- 2 ^ e in units of the smallest value is a power of two, where the format reaches down to it
power : (f : Format) (e : ℤ) → down e ≤ 2 ^ low f → (j : ℕ) × (up e * 2 ^ low f ≡ 2 ^ j * down e)
power f (pos k) h = (k + low f, sym (pow-add 2 k (low f)) ∙ sym (mul-one (2 ^ (k + low f))))
power f (negsuc k) h = (low f - suc k, one-mul (2 ^ low f) ∙ ap (λ (x : ℕ). 2 ^ x) (sym (go (leb (suc k) (low f)) refl)) ∙ pow-add 2 (low f - suc k) (suc k))
  where
    go : (b : Bool) → leb (suc k) (low f) ≡ b → low f - suc k + suc k ≡ low f
    go true e = let p = leb-true (suc k) (low f) e in omega arith
    go false e = absurd (let p : 2 ^ low f < 2 ^ suc k = pow-lt (leb-false (suc k) (low f) e) in omega arith)

own_value : (f : Format) (s : Bool) (m : ℕ) (e : ℤ) → m < 2 ^ prec f → down e ≤ 2 ^ low f → m * up e < 2 ^ suc (emax f) * down e
    → HasValue (round f s (m * up e) (down e)) s (m * up e) (down e)
own_value f s m e small low-enough under =
    let p = power f e low-enough in
    let j = p.0 in
    let is : m * up e * 2 ^ low f ≡ m * 2 ^ j * down e = mul_assoc m (up e) (2 ^ low f) ∙ ap (λ (x : ℕ). m * x) p.1 ∙ sym (mul_assoc m (2 ^ j) (down e)) in
    let a : m * 2 ^ j * down e < 2 ^ (low f + suc (emax f)) * down e = subst (λ (x : ℕ). x < 2 ^ (low f + suc (emax f)) * down e) is
    (subst (λ (x : ℕ). m * up e * 2 ^ low f < x) (mul_right_comm (2 ^ suc (emax f)) (down e) (2 ^ low f) ∙ ap (λ (x : ℕ). x * down e) (mul_comm (2 ^ suc (emax f)) (2 ^ low f) ∙ sym (pow-add 2 (low f) (suc (emax f)))))
    (mul-lt-mul_of_pos_right under (pow_pos (low f)))) in
    round_exact f s (m * up e) (down e) m j (down_pos e) small (lt_of_mul-lt-mul_right (down e) a) is

of_fits : (f : Format) (s : Bool) (m : ℕ) (e : ℤ) → T (fits f (fin s m e)) → HasValue (round f s (m * up e) (down e)) s (m * up e) (down e)
unfolding fits
of_fits f s zero e h = round_exact f s (zero * up e) (down e) 0 0 (down_pos e) (pow_pos (prec f)) (pow_pos (low f + suc (emax f))) (simp zero-mul)
of_fits f s (suc m) e h =
    let a = and_l (eqb (suc m % 2) 1 && ltb (suc m) (2 ^ prec f) && leb (down e) (2 ^ low f)) (ltb (suc m * up e) (2 ^ suc (emax f) * down e)) h in
    let b = and_l (eqb (suc m % 2) 1 && ltb (suc m) (2 ^ prec f)) (leb (down e) (2 ^ low f)) a in
    own_value f s (suc m) e
    (ltb→lt (suc m) (2 ^ prec f) (and_r (eqb (suc m % 2) 1) (ltb (suc m) (2 ^ prec f)) b))
    (leb→le (down e) (2 ^ low f) (and_r (eqb (suc m % 2) 1 && ltb (suc m) (2 ^ prec f)) (leb (down e) (2 ^ low f)) a))
    (ltb→lt (suc m * up e) (2 ^ suc (emax f) * down e)
    (and_r (eqb (suc m % 2) 1 && ltb (suc m) (2 ^ prec f) && leb (down e) (2 ^ low f)) (ltb (suc m * up e) (2 ^ suc (emax f) * down e)) h))

-- a finite float's own fraction, rounded, is that float
own_round : (f : Format) (s : Bool) (m : ℕ) (e : ℤ) → T (fits f (fin s m e)) → round f s (m * up e) (down e) ≡ fin s m e
own_round f s m e h =
    sym (of_bits-to_bits f (round f s (m * up e) (down e)) (round-fits f s (m * up e) (down e)))
    ∙ ap (of_bits f) (same_bits f (round f s (m * up e) (down e)) s m e (of_fits f s m e h))
    ∙ of_bits-to_bits f (fin s m e) h

positive_same : (s : Bool) → unlike s false ≡ s
positive_same true = refl
positive_same false = refl

pub times_one : (f : Format) (x : Float) → T (fits f x) → mul f x (fin false 1 (pos 0)) ≡ x
unfolding mul
times_one f nan h = refl
times_one f (inf s) h = ap inf (positive_same s)
times_one f (fin s m e) h =
    ap (λ (t : Bool). round f t (m * up e * 1) (down e * 1)) (positive_same s)
    ∙ round_same f s (m * up e * 1) (down e * 1) (m * up e) (down e) (mul-pos (down_pos e) (lit< tt)) (down_pos e) (simp mul-one)
    ∙ own_round f s m e h
