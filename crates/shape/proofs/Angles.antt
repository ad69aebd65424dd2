-- The rule of the angle table, once over the whole table. Assumes nothing.
use mathlib.Core.Path.{◌≡◌, refl}
use mathlib.Core.Bool.{Bool, true, false}
use Prim.Native.Nat.{ℕ, ◌+◌, ◌*◌, ◌/◌, ◌^◌, ◌≤◌, ◌<◌}
use lib.Count.{count_trailing_zeros}
use lib.Dec.{T, leb, eqb, leb→le, eqb→eq}
use lib.Ieee.{Float, nan, inf, fin, up, down, binary32, of_bits, of_fields, odd, span, climb, size}
use lib.Ieee.Exact.{HasValue}
use Rattle.vectors.specs.Vec.{lit, one}
use Rattle.shape.specs.Ring.{cos_bits, sin_bits, cos_at, sin_at}
use Rattle.shape.proofs.Table.{both, at}

-- a value's sign, its size in multiples of 2^-60, and whether it is a whole number of them
unfoldable pub negative : Float → Bool
negative nan = false
negative (inf s) = s
negative (fin s m e) = s

unfoldable pub multiples : Float → ℕ
multiples nan = 0
multiples (inf s) = 0
multiples (fin s m e) = m * up e * 2 ^ 60 / down e

unfoldable whole : Float → Bool
unfolding multiples
whole nan = false
whole (inf s) = false
whole (fin s m e) = eqb (m * up e * 2 ^ 60) (multiples (fin s m e) * down e)

whole_value : (x : Float) → T (whole x) → HasValue x (negative x) (multiples x) (2 ^ 60)
unfolding whole negative
whole_value nan t = absurd t
whole_value (inf s) t = absurd t
whole_value (fin s m e) t = (refl, eqb→eq (m * up e * 2 ^ 60) (multiples (fin s m e) * down e) t)

-- 01: 'Taken as whole multiples of 2^-60, the squares of each pair sum to within 2^-22 of 1', which is 2^98 in 2^120
pub record OnCircle (c s : Float) : Type 0 where
  pub cosine : HasValue c (negative c) (multiples c) (2 ^ 60)
  pub sine : HasValue s (negative s) (multiples s) (2 ^ 60)
  pub low : 2 ^ 120 ≤ multiples c * multiples c + multiples s * multiples s + 2 ^ 98
  pub high : multiples c * multiples c + multiples s * multiples s ≤ 2 ^ 120 + 2 ^ 98

-- the same as a test
unfoldable near : Float → Float → Bool
unfolding whole multiples
near c s =
    both (both (whole c) (whole s))
    (both (leb (2 ^ 120) (multiples c * multiples c + multiples s * multiples s + 2 ^ 98))
    (leb (multiples c * multiples c + multiples s * multiples s) (2 ^ 120 + 2 ^ 98)))

four : (a b c d : Bool) → T (both (both a b) (both c d)) → T a × T b × T c × T d
four true true true true t = (tt, tt, tt, tt)
four true true true false t = absurd t
four true true false d t = absurd t
four true false c d t = absurd t
four false b c d t = absurd t

near_circle : (c s : Float) → T (near c s) → OnCircle c s
unfolding near
near_circle c s t =
    let q = multiples c * multiples c + multiples s * multiples s in
    let u = four (whole c) (whole s) (leb (2 ^ 120) (q + 2 ^ 98)) (leb q (2 ^ 120 + 2 ^ 98)) t in
    record { cosine = whole_value c u.0; sine = whole_value s u.1; low = leb→le (2 ^ 120) (q + 2 ^ 98) u.2; high = leb→le q (2 ^ 120 + 2 ^ 98) u.3 }

unfoldable fair : ℕ → ℕ → Bool
unfolding near sin_at sin_bits of_bits of_fields odd span climb size count_trailing_zeros
fair k x = near (of_bits binary32 x) (sin_at k)

pub squares : (k : ℕ) → k < 8 → OnCircle (cos_at k) (sin_at k)
unfolding fair cos_at cos_bits
squares k h = near_circle (cos_at k) (sin_at k) (at fair cos_bits tt k h)

-- 01: 'Entry 0 is exactly 1 and 0'
pub entry_zero : (cos_at 0 ≡ one) × (sin_at 0 ≡ lit 0)
unfolding cos_at sin_at cos_bits sin_bits
entry_zero = (refl, refl)
