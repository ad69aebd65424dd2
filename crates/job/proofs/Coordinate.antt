-- Check 8 on bit patterns: a coordinate is within -16384 to 16384 where its bits without the sign are at most those of 16384. Assumes nothing.
use Prim.Native.Nat.{ℕ, zero, suc, ◌+◌, ◌*◌, ◌/◌, ◌%◌, ◌^◌, ◌<◌, ◌≤◌}
use mathlib.Core.Bool.{Bool, true, false, not, ◌&&◌, ◌||◌, cond, and-true}
use mathlib.Core.Path.{◌≡◌, refl, sym, ap, ◌∙◌}
use mathlib.Core.Logic.{⊎_elim}
use native.Mathlib.Nat.{mul_right_comm, mul-le-mul_right, le_of_mul-le-mul_right, le_trans, le_of_eq, lt_of_lt_of_le, lt_of_le_of_lt, eq-or-lt_of_le, lt_of_mul-lt-mul_right, mul-lt-mul_of_pos_right, mul-le-mul}
use native.Mathlib.Omega.{arith}
use lib.IntN.{ℤ, pos}
use lib.Dec.{leb, ltb, eqb, leb→le}
use lib.Pow.{pow_pos, pow_mono}
use borrow.Author.Tests.{lt-ltb, le-ltb, le-leb, lt-leb, eq-eqb, ne_eqb, leb-true, leb-false, ltb-true, ltb-false, eqb-true}
use lib.Ieee.{Float, nan, inf, fin, binary64, up, down, le, odd, of_fields, of_bits}
use lib.Ieee.Fits.{down_pos}
use lib.Ieee.Exact.{HasValue, odd_sign}
use Rattle.job.specs.Coordinate.{within}
use Rattle.lists.proofs.Bools.{eqb_sym}

-- the range's test at a float
unfoldable pub ranged : Float → Bool
unfolding le
ranged v = le (fin true 1 (pos 14)) v && le v (fin false 1 (pos 14))

pub within_is : (x : ℕ) → within x ≡ ranged (of_bits binary64 x)
unfolding within ranged of_bits of_fields odd
within_is x = refl

le_or : (a b : ℕ) → (ltb a b || (eqb a b && true)) ≡ leb a b
le_or a b = go (leb a b) refl
  where
    go : (t : Bool) → leb a b ≡ t → (ltb a b || (eqb a b && true)) ≡ t
    go true e =
        ⊎_elim (λ q. rw (le-ltb a b (le_of_eq (sym q)), eq-eqb a b q)) (λ l. rw (lt-ltb a b l)) (eq-or-lt_of_le (leb-true a b e))
    go false e =
        let l = leb-false a b e in
        rw (le-ltb a b (omega arith), ne_eqb a b (λ q. omega arith))

pub ranged_fin : (t : Bool) (n : ℕ) (d : ℤ) → ranged (fin t n d) ≡ leb (n * up d * 1) (16384 * down d)
unfolding ranged le
ranged_fin false n d =
    let p = down_pos d in
    rw (lt-ltb 0 (16384 * down d + n * up d * 1) (omega arith), le_or)
ranged_fin true n d =
    let p = down_pos d in
    rw (lt-ltb 0 (n * up d * 1 + 16384 * down d) (omega arith), and-true, eqb_sym (16384 * down d) (n * up d * 1), le_or)

leb_cross : (x de c a : ℕ) → 0 < c → 0 < de → x * c ≡ a * de → leb (x * 1) (16384 * de) ≡ leb a (16384 * c)
leb_cross x de c a C D e = go (leb a (16384 * c)) refl
  where
    go : (t : Bool) → leb a (16384 * c) ≡ t → leb (x * 1) (16384 * de) ≡ t
    go true q =
        let l : x ≤ 16384 * de = le_of_mul-le-mul_right (le_trans (le_of_eq e) (le_trans (mul-le-mul_right de (leb-true a (16384 * c) q)) (le_of_eq (mul_right_comm 16384 c de)))) C in
        le-leb (x * 1) (16384 * de) (omega arith)
    go false q =
        let l : 16384 * de < x = lt_of_mul-lt-mul_right c (lt_of_le_of_lt (le_of_eq (mul_right_comm 16384 de c)) (lt_of_lt_of_le (mul-lt-mul_of_pos_right (leb-false a (16384 * c) q) D) (le_of_eq (sym e)))) in
        lt-leb (x * 1) (16384 * de) (omega arith)

-- at a float whose size is a / c, the range is one comparison
ranged_value : (v : Float) (s : Bool) (a c : ℕ) → 0 < c → HasValue v s a c → ranged v ≡ leb a (16384 * c)
ranged_value nan s a c C p = absurd p
ranged_value (inf t) s a c C p = absurd p
ranged_value (fin t n d) s a c C p = ranged_fin t n d ∙ leb_cross (n * up d) (down d) c a C (down_pos d) p.1

-- 2 ^ 1088 is 16384 in units of 2 ^ -1074
abbrev lim : ℕ
lim = 16384 * 2 ^ 1074

edge : (t : ℕ) → leb ((2 ^ 52 + t) * 2 ^ 1036) lim ≡ leb (1037 * 2 ^ 52 + t) 0x40D0000000000000
edge zero = refl
edge (suc t) =
    let m : (2 ^ 52 + 1) * 2 ^ 1036 ≤ (2 ^ 52 + suc t) * 2 ^ 1036 = mul-le-mul_right {m = 2 ^ 52 + 1} {n = 2 ^ 52 + suc t} (2 ^ 1036) (omega arith) in
    lt-leb ((2 ^ 52 + suc t) * 2 ^ 1036) lim (le_trans (leb→le (suc lim) ((2 ^ 52 + 1) * 2 ^ 1036) tt) m)
    ∙ sym (lt-leb (1037 * 2 ^ 52 + suc t) 0x40D0000000000000 (omega arith))

-- a field e of at least 1 and digits t: the size is (2 ^ 52 + t) * 2 ^ (e - 1), and it is in range just when e * 2 ^ 52 + t is at most 1037 * 2 ^ 52
normal : (e t : ℕ) → t < 2 ^ 52 → leb ((2 ^ 52 + t) * 2 ^ e) lim ≡ leb (suc e * 2 ^ 52 + t) 0x40D0000000000000
normal e t h = go (ltb e 1036) (ltb 1036 e) refl refl
  where
    go : (p q : Bool) → ltb e 1036 ≡ p → ltb 1036 e ≡ q → leb ((2 ^ 52 + t) * 2 ^ e) lim ≡ leb (suc e * 2 ^ 52 + t) 0x40D0000000000000
    go true q x y =
        let l = ltb-true e 1036 x in
        let m : (2 ^ 52 + t) * 2 ^ e ≤ 2 ^ 53 * 2 ^ 1035 = mul-le-mul {n₁ = 2 ^ 52 + t} {m₁ = 2 ^ e} {n₂ = 2 ^ 53} {m₂ = 2 ^ 1035} (omega arith) (pow_mono {i = e} {j = 1035} (omega arith)) in
        le-leb ((2 ^ 52 + t) * 2 ^ e) lim m ∙ sym (le-leb (suc e * 2 ^ 52 + t) 0x40D0000000000000 (omega arith))
    go false true x y =
        let l = ltb-true 1036 e y in
        let m : 2 ^ 52 * 2 ^ 1037 ≤ (2 ^ 52 + t) * 2 ^ e = mul-le-mul {n₁ = 2 ^ 52} {m₁ = 2 ^ 1037} {n₂ = 2 ^ 52 + t} {m₂ = 2 ^ e} (omega arith) (pow_mono {i = 1037} {j = e} l) in
        lt-leb ((2 ^ 52 + t) * 2 ^ e) lim (le_trans (leb→le (suc lim) (2 ^ 52 * 2 ^ 1037) tt) m)
        ∙ sym (lt-leb (suc e * 2 ^ 52 + t) 0x40D0000000000000 (omega arith))
    go false false x y =
        let l = ltb-false e 1036 x in
        let l' = ltb-false 1036 e y in
        let q : e ≡ 1036 = omega arith in
        rw q (edge t)

out : (s b : Bool) → ranged (cond b (inf s) nan) ≡ false
unfolding ranged le
out s false = refl
out true true = refl
out false true = refl

-- the three fields of a pattern
fields : (s : Bool) (e t : ℕ) → e < 2048 → t < 2 ^ 52 → ranged (of_fields binary64 s e t) ≡ leb (e * 2 ^ 52 + t) 0x40D0000000000000
unfolding of_fields
fields s zero t E H =
    ranged_value (odd 53 s t 0 1074) s (t * 2 ^ 0) (2 ^ 1074) (pow_pos 1074) (odd_sign 53 s t 0 1074)
    ∙ le-leb (t * 1) lim (le_trans (omega arith) (leb→le (2 ^ 52) lim tt))
    ∙ sym (le-leb (0 * 2 ^ 52 + t) 0x40D0000000000000 (omega arith))
fields s (suc e) t E H = go (eqb (suc e) 2047) refl
  where
    go : (p : Bool) → eqb (suc e) 2047 ≡ p → ranged (cond p (cond (eqb t 0) (inf s) nan) (odd 53 s (2 ^ 52 + t) e 1074)) ≡ leb (suc e * 2 ^ 52 + t) 0x40D0000000000000
    go true q = out s (eqb t 0) ∙ sym (lt-leb (suc e * 2 ^ 52 + t) 0x40D0000000000000 (let z = eqb-true (suc e) 2047 q in omega arith))
    go false q =
        ranged_value (odd 53 s (2 ^ 52 + t) e 1074) s ((2 ^ 52 + t) * 2 ^ e) (2 ^ 1074) (pow_pos 1074) (odd_sign 53 s (2 ^ 52 + t) e 1074)
        ∙ normal e t H

pub within_bits : (x : ℕ) → within x ≡ leb (x % 0x8000000000000000) 0x40D0000000000000
unfolding of_bits
within_bits x =
    let q : x % 2 ^ 63 / 2 ^ 52 * 2 ^ 52 + x % 2 ^ 52 ≡ x % 2 ^ 63 = omega arith in
    within_is x
    ∙ fields (leb (2 ^ 63) x) (x % 2 ^ 63 / 2 ^ 52) (x % 2 ^ 52) (omega arith) (omega arith)
    ∙ ap (λ (k : ℕ). leb k 0x40D0000000000000) q

pub outside_bits : (x : ℕ) → ltb 0x40D0000000000000 (x % 0x8000000000000000) ≡ not (within x)
outside_bits x = rw (within_bits x) (go (leb (x % 0x8000000000000000) 0x40D0000000000000) refl)
  where
    go : (p : Bool) → leb (x % 0x8000000000000000) 0x40D0000000000000 ≡ p → ltb 0x40D0000000000000 (x % 0x8000000000000000) ≡ not p
    go true e = le-ltb 0x40D0000000000000 (x % 0x8000000000000000) (leb-true (x % 0x8000000000000000) 0x40D0000000000000 e)
    go false e = lt-ltb 0x40D0000000000000 (x % 0x8000000000000000) (leb-false (x % 0x8000000000000000) 0x40D0000000000000 e)

-- the same of the two halves of the bits
module _ (high low : ℕ) (h : high < 4294967296) (l : low < 4294967296) where
  pub below_limit : high % 0x80000000 < 0x40D00000 → false ≡ not (within (high * 4294967296 + low))
  below_limit e = sym (le-ltb 0x40D0000000000000 ((high * 4294967296 + low) % 0x8000000000000000) (omega arith)) ∙ outside_bits (high * 4294967296 + low)

  pub above_limit : 0x40D00000 < high % 0x80000000 → true ≡ not (within (high * 4294967296 + low))
  above_limit e = sym (lt-ltb 0x40D0000000000000 ((high * 4294967296 + low) % 0x8000000000000000) (omega arith)) ∙ outside_bits (high * 4294967296 + low)

  pub at_limit : high % 0x80000000 ≡ 0x40D00000 → ltb 0 low ≡ not (within (high * 4294967296 + low))
  at_limit e = go (ltb 0 low) refl ∙ outside_bits (high * 4294967296 + low)
    where
      go : (p : Bool) → ltb 0 low ≡ p → p ≡ ltb 0x40D0000000000000 ((high * 4294967296 + low) % 0x8000000000000000)
      go true q = let k = ltb-true 0 low q in sym (lt-ltb 0x40D0000000000000 ((high * 4294967296 + low) % 0x8000000000000000) (omega arith))
      go false q = let k = ltb-false 0 low q in sym (le-ltb 0x40D0000000000000 ((high * 4294967296 + low) % 0x8000000000000000) (omega arith))
