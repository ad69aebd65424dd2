-- What the proofs of this crate share. Assumes nothing.
use mathlib.Core.Path.{◌≡◌}
use mathlib.Core.Bool.{true, false, not}
use Prim.Native.Nat.{ℕ, ◌+◌, ◌/◌, ◌%◌}
use native.Mathlib.Omega.{arith}
use lib.Dec.{T}
use lib.Ieee.{binary32, nan_bits}

-- no pattern of a float buffer is a NaN's: the exponent's field is 128
pub pattern_no_nan : (i : ℕ) → T (not (nan_bits binary32 (0x40000000 + i % 65536)))
unfolding nan_bits
pattern_no_nan i =
    let e : (0x40000000 + i % 65536) % 0x80000000 / 0x800000 ≡ 128 = omega arith in
    rw e tt

-- a test that answers false, of a fact that does not hold
pub not_so : {P : Type 0} → (P → ⊥) → (false ≡ true → P) × (P → false ≡ true)
not_so h = (λ e. let z : ◌≡◌ {A = ℕ} 0 1 = cc in absurd (omega arith), λ p. absurd (h p))
