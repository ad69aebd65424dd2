-- Coordinates of a PDB file are within a job's limits: at most four digits stand before the point. Assumes nothing.
use Prim.Native.Nat.{ℕ, zero, suc, ◌+◌, ◌*◌, ◌%◌, ◌^◌, ◌<◌, ◌≤◌}
use mathlib.Core.Bool.{Bool, true, false, ◌&&◌, cond}
use mathlib.Core.Path.{◌≡◌, refl, sym, ap, ◌∙◌, subst}
use native.Mathlib.Omega.{arith}
use lib.IntN.{ℤ, pos}
use lib.Dec.{T, ltb, leb, lit<}
use lib.Ieee.{Format, Float, nan, inf, fin, binary64, low, emax, prec, up, down, size, nearest, odd, units, round, neg, le, of_bits, of_fields, to_bits}
use lib.Ieee.Bits.{of_bits-to_bits, to_bits-lt, is_true}
use lib.Ieee.Fits.{down_pos, round-fits}
use lib.Ieee.Order.{round_mono}
use borrow.Author.Tests.{lt-ltb, ltb-true}
use Rattle.job.specs.Coordinate.{within}
use Rattle.job.proofs.Coordinate.{within_bits}
use Rattle.coordinates.specs.Coordinate.{coordinate, bits}
use Rattle.coordinates.proofs.Laws.{neg_round}

-- ---- without its sign
above_fin : (n : ℕ) (d : ℤ) → le (fin true 1 (pos 14)) (fin false n d) ≡ true
unfolding le
above_fin n d =
    let p = down_pos d in
    rw (lt-ltb 0 (16384 * down d + n * up d * 1) (omega arith))

above_odd : (d q k l : ℕ) → le (fin true 1 (pos 14)) (odd d false q k l) ≡ true
unfolding odd
above_odd d zero k l = above_fin zero (pos zero)
above_odd d (suc q) k l = above_fin _ _

above_units : (f : Format) (q k : ℕ) → le (fin true 1 (pos 14)) (units f false q k) ≡ true
unfolding units le
above_units f q k = go (ltb (q * 2 ^ k) (2 ^ (low f + suc (emax f))))
  where
    go : (b : Bool) → le (fin true 1 (pos 14)) (cond b (odd (suc (prec f)) false q k (low f)) (inf false)) ≡ true
    go true = above_odd (suc (prec f)) q k (low f)
    go false = refl

above_round : (f : Format) (n d : ℕ) → le (fin true 1 (pos 14)) (round f false n d) ≡ true
unfolding round
above_round f n d = above_units f _ _

limit : round binary64 false 16384 1 ≡ fin false 1 (pos 14)
unfolding round units odd size nearest
limit = refl

below_round : (n : ℕ) → n ≤ 16384000 → le (round binary64 false n 1000) (fin false 1 (pos 14)) ≡ true
below_round n h =
    is_true _ (subst (λ (x : Float). T (le (round binary64 false n 1000) x)) limit (round_mono binary64 n 1000 16384 1 (lit< tt) (lit< tt) (omega arith)))

within_plus : (n : ℕ) → n ≤ 16384000 → within (to_bits binary64 (round binary64 false n 1000)) ≡ true
unfolding within of_bits of_fields odd
within_plus n h =
    rw (of_bits-to_bits binary64 (round binary64 false n 1000) (round-fits binary64 false n 1000), above_round binary64 n 1000) (below_round n h)

-- ---- the sign is one bit
same_size : (x : Float) → to_bits binary64 (neg x) % 9223372036854775808 ≡ to_bits binary64 x % 9223372036854775808
unfolding to_bits neg
same_size nan = refl
same_size (inf true) = refl
same_size (inf false) = refl
same_size (fin true m e) = omega arith
same_size (fin false m e) = omega arith

pub within_bits_of : (m : Bool) (n : ℕ) → n ≤ 16384000 → within (bits m n) ≡ true
unfolding bits coordinate
within_bits_of m n h = go (m && ltb 0 n)
  where
    go : (s : Bool) → within (to_bits binary64 (round binary64 s n 1000)) ≡ true
    go false = within_plus n h
    go true =
        within_bits (to_bits binary64 (round binary64 true n 1000))
        ∙ ap (λ (k : ℕ). leb k 0x40D0000000000000)
        (ap (λ (x : Float). to_bits binary64 x % 9223372036854775808) (sym (neg_round binary64 n 1000)) ∙ same_size (round binary64 false n 1000))
        ∙ sym (within_bits (to_bits binary64 (round binary64 false n 1000))) ∙ within_plus n h

pub bits_small : (m : Bool) (n : ℕ) → bits m n < 18446744073709551616
unfolding bits coordinate
bits_small m n = to_bits-lt binary64 (round binary64 (m && ltb 0 n) n 1000) (round-fits binary64 (m && ltb 0 n) n 1000)

-- ---- 'zero always +0': no coordinate is -0
sign : Float → Bool
sign nan = false
sign (inf s) = s
sign (fin s m e) = s

plus_odd : (d q k l : ℕ) → sign (odd d false q k l) ≡ false
unfolding odd sign
plus_odd d zero k l = refl
plus_odd d (suc q) k l = refl

plus_units : (f : Format) (q k : ℕ) → sign (units f false q k) ≡ false
unfolding units sign
plus_units f q k = go (ltb (q * 2 ^ k) (2 ^ (low f + suc (emax f))))
  where
    go : (b : Bool) → sign (cond b (odd (suc (prec f)) false q k (low f)) (inf false)) ≡ false
    go true = plus_odd (suc (prec f)) q k (low f)
    go false = refl

plus_round : (f : Format) (n d : ℕ) → sign (round f false n d) ≡ false
unfolding round
plus_round f n d = plus_units f _ _

neg_neg : (x : Float) → neg (neg x) ≡ x
unfolding neg
neg_neg nan = refl
neg_neg (inf true) = refl
neg_neg (inf false) = refl
neg_neg (fin true m e) = refl
neg_neg (fin false m e) = refl

-- the least that is not zero is above zero
least : le (round binary64 false 1 1000) (fin false 0 (pos 0)) ≡ false
unfolding round units odd size nearest le
least = refl

not_zero : (n : ℕ) → 0 < n → round binary64 false n 1000 ≡ fin false 0 (pos 0) → ⊥
not_zero n h e =
    let a : le (round binary64 false 1 1000) (fin false 0 (pos 0)) ≡ true
    = is_true _ (subst (λ (x : Float). T (le (round binary64 false 1 1000) x)) e (round_mono binary64 1 1000 n 1000 (lit< tt) (lit< tt) (omega arith))) in
    let w : ◌≡◌ {A = Bool} true false = sym a ∙ least in
    let z : ◌≡◌ {A = ℕ} 0 1 = cc in
    omega arith

minus_zero : of_bits binary64 0x8000000000000000 ≡ fin true 0 (pos 0)
unfolding of_bits of_fields odd
minus_zero = refl

pub never_minus_zero : (m : Bool) (n : ℕ) → bits m n ≡ 0x8000000000000000 → ⊥
unfolding bits coordinate sign neg
never_minus_zero m n e = go m (ltb 0 n) refl (back (m && ltb 0 n) e)
  where
    back : (s : Bool) → to_bits binary64 (round binary64 s n 1000) ≡ 0x8000000000000000 → round binary64 s n 1000 ≡ fin true 0 (pos 0)
    back s q = sym (of_bits-to_bits binary64 (round binary64 s n 1000) (round-fits binary64 s n 1000)) ∙ ap (of_bits binary64) q ∙ minus_zero

    plus : round binary64 false n 1000 ≡ fin true 0 (pos 0) → ⊥
    plus q =
        let w : ◌≡◌ {A = Bool} false true = sym (plus_round binary64 n 1000) ∙ ap sign q in
        let z : ◌≡◌ {A = ℕ} 0 1 = cc in
        omega arith

    go : (a b : Bool) → ltb 0 n ≡ b → round binary64 (a && b) n 1000 ≡ fin true 0 (pos 0) → ⊥
    go false b t q = plus q
    go true false t q = plus q
    go true true t q = not_zero n (ltb-true 0 n t) (sym (neg_neg (round binary64 false n 1000)) ∙ ap neg (neg_round binary64 n 1000 ∙ q))
