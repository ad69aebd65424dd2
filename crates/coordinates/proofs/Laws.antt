-- The division of a whole number by 1000 rounds once. Assumes nothing.
use Prim.Native.Nat.{ℕ, zero, suc, ◌+◌, ◌*◌, ◌^◌, ◌<◌, ◌≤◌}
use mathlib.Core.Bool.{Bool, true, false, not, ◌&&◌, cond}
use mathlib.Core.Path.{◌≡◌, refl, sym, ap, ◌∙◌, subst}
use native.Mathlib.Nat.{mul_assoc, mul_comm, mul-one, mul-pos, lt_of_lt_of_le}
use native.Mathlib.Omega.{arith}
use lib.IntN.{pos}
use lib.Dec.{T, ltb, lit<, lit≤}
use lib.Pow.{pow_mono, shl_lt}
use lib.Ieee.{Float, nan, inf, fin, Format, binary64, prec, emax, low, up, down, unlike, odd, units, round, neg, div, of_int, of_bits, is_nan, to_bits}
use lib.Ieee.Exact.{HasValue, round_exact}
use lib.Ieee.Fits.{down_pos, reach}
use lib.Ieee.Scale.{round_same}
use borrow.Author.Tests.{lt-ltb}
use Rattle.coordinates.specs.Coordinate.{coordinate, bits}

neg_odd : (d : ℕ) (q k l : ℕ) → neg (odd d false q k l) ≡ odd d true q k l
unfolding odd neg
neg_odd d zero k l = refl
neg_odd d (suc q) k l = refl

neg_units : (f : Format) (q k : ℕ) → neg (units f false q k) ≡ units f true q k
unfolding units neg
neg_units f q k = go (ltb (q * 2 ^ k) (2 ^ (low f + suc (emax f))))
  where
    go : (b : Bool) → neg (cond b (odd (suc (prec f)) false q k (low f)) (inf false)) ≡ cond b (odd (suc (prec f)) true q k (low f)) (inf true)
    go true = neg_odd (suc (prec f)) q k (low f)
    go false = refl

pub neg_round : (f : Format) (a d : ℕ) → neg (round f false a d) ≡ round f true a d
unfolding round
neg_round f a d = neg_units f _ _

no_nan_odd : (d : ℕ) (s : Bool) (q k l : ℕ) → T (not (is_nan (odd d s q k l)))
unfolding odd is_nan
no_nan_odd d s zero k l = tt
no_nan_odd d s (suc q) k l = tt

no_nan_units : (f : Format) (s : Bool) (q k : ℕ) → T (not (is_nan (units f s q k)))
unfolding units is_nan
no_nan_units f s q k = go (ltb (q * 2 ^ k) (2 ^ (low f + suc (emax f))))
  where
    go : (b : Bool) → T (not (is_nan (cond b (odd (suc (prec f)) s q k (low f)) (inf s))))
    go true = no_nan_odd (suc (prec f)) s q k (low f)
    go false = tt

pub no_nan_round : (f : Format) (s : Bool) (a d : ℕ) → T (not (is_nan (round f s a d)))
unfolding round
no_nan_round f s a d = no_nan_units f s _ _

-- a whole number of at most 53 digits is a float exactly
whole_value : (f : Format) (n : ℕ) → n < 2 ^ prec f → HasValue (of_int f (pos n)) false n 1
unfolding of_int
whole_value f n h =
    let p : prec f + low f ≤ low f + suc (emax f) = omega (arith, reach f) in
    round_exact f false n 1 n (low f) (lit< tt) h (lt_of_lt_of_le (shl_lt (prec f) (low f) h) (pow_mono p)) (sym (mul-one (n * 2 ^ low f)))

-- divided by 1000.0
thousand : of_bits binary64 0x408F400000000000 ≡ fin false 125 (pos 3)
unfolding of_bits
thousand = refl

div_thousand : (x : Float) (n : ℕ) → HasValue x false n 1 → div binary64 x (fin false 125 (pos 3)) ≡ round binary64 false n 1000
unfolding div
div_thousand nan n v = absurd v
div_thousand (inf t) n v = absurd v
div_thousand (fin t m e) n v =
    ap (λ (s : Bool). round binary64 (unlike s false) (m * up e * 1) (1000 * down e)) v.0
    ∙ round_same binary64 false (m * up e * 1) (1000 * down e) n 1000 (mul-pos (lit< tt) (down_pos e)) (lit< tt)
    (ap (λ (x : ℕ). x * 1000) v.1 ∙ mul_assoc n (down e) 1000 ∙ ap (λ (x : ℕ). n * x) (mul_comm (down e) 1000))

pub divided : (n : ℕ) → n < 2 ^ 32 → div binary64 (of_int binary64 (pos n)) (of_bits binary64 0x408F400000000000) ≡ round binary64 false n 1000
divided n h =
    ap (div binary64 (of_int binary64 (pos n))) thousand
    ∙ div_thousand (of_int binary64 (pos n)) n (whole_value binary64 n (lt_of_lt_of_le h (pow_mono {i = 32} {j = 53} (lit≤ tt))))

pub zero_bits : (m : Bool) (n : ℕ) → n ≡ 0 → 0 ≡ bits m n
unfolding bits coordinate round to_bits
zero_bits true n e = rw e
zero_bits false n e = rw e

module _ (q : Float) (n : ℕ) (h : n < 2 ^ 32) (e : q ≡ div binary64 (of_int binary64 (pos n)) (of_bits binary64 0x408F400000000000)) where
  is : q ≡ round binary64 false n 1000
  is = e ∙ divided n h

  pub not_nan : T (not (is_nan q))
  not_nan = subst (λ (x : Float). T (not (is_nan x))) (sym is) (no_nan_round binary64 false n 1000)

  pub not_nan_neg : T (not (is_nan (neg q)))
  not_nan_neg = subst (λ (x : Float). T (not (is_nan x))) (sym (ap neg is ∙ neg_round binary64 n 1000)) (no_nan_round binary64 true n 1000)

  pub plus : (m : Bool) → m ≡ false → to_bits binary64 q ≡ bits m n
  unfolding bits coordinate
  plus m z = ap (to_bits binary64) is ∙ ap (λ (b : Bool). to_bits binary64 (round binary64 (b && ltb 0 n) n 1000)) (sym z)

  pub minus : (m : Bool) → m ≡ true → (n ≡ 0 → ⊥) → to_bits binary64 (neg q) ≡ bits m n
  unfolding bits coordinate
  minus m z p =
      let l : 0 < n = omega arith in
      ap (to_bits binary64) (ap neg is ∙ neg_round binary64 n 1000)
      ∙ ap (λ (b : Bool). to_bits binary64 (round binary64 b n 1000)) (sym (lt-ltb 0 n l))
      ∙ ap (λ (b : Bool). to_bits binary64 (round binary64 (b && ltb 0 n) n 1000)) (sym z)
