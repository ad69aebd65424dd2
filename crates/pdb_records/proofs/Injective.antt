-- A residue's name in one number is equal exactly when chain letter, sequence number by value and insertion code are. Assumes nothing.
use Prim.Native.Nat.{ℕ, ◌+◌, ◌*◌, ◌-◌, ◌<◌}
use mathlib.Core.Path.{◌≡◌}
use mathlib.Core.Bool.{Bool, true, false, cond}
use native.Mathlib.Omega.{arith}
use Rattle.pdb_records.specs.Records.{name_of}

abbrev ordinal : Bool → ℕ → ℕ
ordinal minus n = cond minus (4294967296 - n) (4294967296 + n)

below : (m : Bool) (n : ℕ) → n < 4294967296 → ordinal m n < 8589934592
below true n h = omega arith
below false n h = omega arith

parts : (c d o p i j : ℕ) → o < 8589934592 → p < 8589934592 → i < 256 → j < 256
    → (c * 8589934592 + o) * 256 + i ≡ (d * 8589934592 + p) * 256 + j → (c ≡ d) × (o ≡ p) × (i ≡ j)
parts c d o p i j ho hp hi hj e = omega arith

pub same_name : (c d : ℕ) (m k : Bool) (n l i j : ℕ) → n < 4294967296 → l < 4294967296 → i < 256 → j < 256
    → name_of c m n i ≡ name_of d k l j → (c ≡ d) × (ordinal m n ≡ ordinal k l) × (i ≡ j)
same_name c d m k n l i j hn hl hi hj e = parts c d (ordinal m n) (ordinal k l) i j (below m n hn) (below k l hl) hi hj e
