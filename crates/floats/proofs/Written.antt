-- From the pattern of a value back to the value, over the format. Assumes nothing.
use mathlib.Core.Path.{◌≡◌, refl, sym, ap, ◌∙◌, subst}
use Prim.Native.Nat.{ℕ, zero, suc, ◌+◌, ◌-◌, ◌*◌, ◌/◌, ◌%◌, ◌^◌, ◌≤◌, ◌<◌, compare}
use borrow.Author.Tests.{le-ltb}
use native.Mathlib.Nat.{le_refl, le_trans, lt_of_le_of_lt}
use mathlib.Core.Bool.{Bool, true, false, not, cond}
use lib.Dec.{T, ltb, ltb→lt}
use lib.Pow.{pow-lt}
use lib.Ieee.{Float, nan, inf, fin, Format, binary32, prec, low, up, down, size, nearest, odd, units, to_bits, of_bits, nan_bits, is_nan, fits, div, ne}
use lib.Ieee.Bits.{of_bits-to_bits, nan_bits_is, nan_bits_above}
use lib.Ieee.Fits.{nan-fits, inf-fits, odd-fits, cond-fits, round-fits, nearest-le, kept-lt}
use lib.Ieee.Scale.{overflow}
use lib.Ieee.Compare.{differs_from_itself}
use Rattle.floats.specs.Floats.{narrowed, floor_root, nearest_root, root}
use Rattle.floats.proofs.Fields.{nan_bits_lem}

-- a pattern that is not `nan`'s gives its value back
other : (f : Format) (v : Float) → (to_bits f v ≡ to_bits f nan → ⊥) → T (not (is_nan v))
unfolding is_nan
other f nan n = absurd (n refl)
other f (inf s) n = tt
other f (fin s m e) n = tt

pub no_nan_of : (f : Format) (v : Float) (r : ℕ) → T (fits f v) → r ≡ to_bits f v → (r ≡ to_bits f nan → ⊥) → T (not (nan_bits f r))
no_nan_of f v r t e n = subst (λ (x : Bool). T (not x)) (sym (nan_bits_is f r ∙ ap is_nan (ap (of_bits f) e ∙ of_bits-to_bits f v t))) (other f v (λ q. n (e ∙ q)))

pub value_of : (f : Format) (v : Float) (r : ℕ) → T (fits f v) → r ≡ to_bits f v → of_bits f r ≡ v
value_of f v r t e = ap (of_bits f) e ∙ of_bits-to_bits f v t

-- and `nan`'s gives `nan`
pub nan_of : (f : Format) (v : Float) → T (fits f v) → to_bits f v ≡ to_bits f nan → v ≡ nan
nan_of f v t e = sym (of_bits-to_bits f v t) ∙ ap (of_bits f) e ∙ of_bits-to_bits f nan (nan-fits f)

pub zero_over_zero : div binary32 (of_bits binary32 0) (of_bits binary32 0) ≡ nan
unfolding div of_bits
zero_over_zero = refl

pub bits_nan : to_bits binary32 nan ≡ 0x7fc0_0000
unfolding to_bits
bits_nan = refl

-- ---- the two results fit
pub narrowed_fits : (f : Format) (x : Float) → T (fits f (narrowed f x))
unfolding narrowed
narrowed_fits f nan = nan-fits f
narrowed_fits f (inf s) = inf-fits f s
narrowed_fits f (fin s m e) = round-fits f s _ _

units_fits : (f : Format) (s : Bool) (q k : ℕ) → q ≤ 2 ^ prec f → T (fits f (units f s q k))
unfolding units
units_fits f s q k a = go (ltb (q * 2 ^ k) (overflow f)) (ltb→lt (q * 2 ^ k) (overflow f))
  where
    go : (b : Bool) → (T b → q * 2 ^ k < overflow f) → T (fits f (cond b (odd (suc (prec f)) s q k (low f)) (inf s)))
    go true h = odd-fits f (suc (prec f)) s q k (lt_of_le_of_lt a (pow-lt (le_refl (suc (prec f))))) a (h tt)
    go false h = inf-fits f s

nearest_root_fits : (f : Format) (n : ℕ) → T (fits f (nearest_root f n))
unfolding nearest_root
nearest_root_fits f n =
    let w = floor_root n in
    let k = size w - prec f in
    let q = w / 2 ^ k in
    let half = (2 * q + 1) * 2 ^ k in
    let o = compare (4 * n) (half * half) in
    units_fits f false (nearest q o) k (le_trans (nearest-le q o) (kept-lt (prec f) w))

pub root_fits : (f : Format) (x : Float) → T (fits f x) → T (fits f (root f x))
unfolding root
root_fits f nan t = nan-fits f
root_fits f (inf s) t = cond-fits f s nan (inf s) (nan-fits f) (inf-fits f s)
root_fits f (fin s zero e) t = t
root_fits f (fin true (suc m) e) t = nan-fits f
root_fits f (fin false (suc m) e) t = nearest_root_fits f (suc m * up e * 2 ^ low f * 2 ^ low f / down e)

pub root_nan : (f : Format) → root f nan ≡ nan
unfolding root
root_nan f = refl

pub differs : (x : Float) → ne x x ≡ true → x ≡ nan
differs x e = differs_from_itself x (subst T (sym e) tt)

-- ---- bits

-- a float that does not equal itself is THE NaN, and has its bits
pub nan_word : (x : Float) → ne x x ≡ true → 0x7fc0_0000 ≡ to_bits binary32 x
nan_word x e = sym bits_nan ∙ ap (to_bits binary32) (sym (differs x e))

-- a pattern above the infinity's, its sign put aside, is a NaN's, and no other is
pub nan_pattern : (w : ℕ) → 0x7f80_0000 < w % 0x8000_0000 → div binary32 (of_bits binary32 0) (of_bits binary32 0) ≡ of_bits binary32 w
nan_pattern w h = zero_over_zero ∙ sym (nan_bits_lem binary32 w h)

pub plain_pattern : (w : ℕ) → w % 0x8000_0000 ≤ 0x7f80_0000 → T (not (nan_bits binary32 w))
plain_pattern w h = subst (λ (x : Bool). T (not x)) (sym (nan_bits_above binary32 w ∙ le-ltb 0x7f80_0000 (w % 0x8000_0000) h)) tt
