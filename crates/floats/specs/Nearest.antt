-- What it is to be the nearest, in sums and products of whole numbers and over the format: what a reader of the
-- theorems `root_is_nearest`, `root_of_bits` and `narrowed_is_nearest` must believe. Numbers count smallest values of
-- the format f, of which 2 ^ low make 1. A value of f is m * 2 ^ j of them with m below 2 ^ prec; no upper end is
-- asked, as IEEE 754 rounds as if there were none, and what is then too large is an infinity.
use Rattle.std.specs.Prelude.{◌≡◌, ◌⊎◌, Bool, ℕ, ◌+◌, ◌*◌, ◌%◌, ◌^◌, ◌≤◌, ◌<◌, Float}
use Rattle.std.specs.Float.{inf, Format}
use Rattle.std.specs.Float.Ieee.{prec, low, hid}
use Rattle.std.specs.Float.Ieee.Exact.{HasValue}
use Rattle.std.specs.Float.Ieee.Scale.{overflow}

-- r is a value of f, in the digits that f writes: prec of them, so that they are hid = 2 ^ (prec - 1) at least; or,
-- below the normal range, r itself with the power 0. The last of them is the one that a tie goes by
pub record Held (f : Format) (r : ℕ) : Type 0 where
  pub digits : ℕ
  pub power : ℕ
  pub is : r ≡ digits * 2 ^ power
  pub most : digits < 2 ^ prec f
  pub lead : (power ≡ 0) ⊎ (hid f ≤ digits)

-- r is the nearest to √n among the values of f, a tie to the even one; n counts squares of smallest values. r is such a
-- value; the half-way point of r and any smaller value y, (r + y) / 2, has a square of at most n, and that of r and any
-- larger value one of at least n; where another value is as near, the last of r's digits is even
pub record IsNearest (f : Format) (n r : ℕ) : Type 0 where
  pub held : Held f r
  pub below : (m j : ℕ) → m < 2 ^ prec f → m * 2 ^ j < r → (r + m * 2 ^ j) * (r + m * 2 ^ j) ≤ 4 * n
  pub above : (m j : ℕ) → m < 2 ^ prec f → r < m * 2 ^ j → 4 * n ≤ (r + m * 2 ^ j) * (r + m * 2 ^ j)
  pub tie : (m j : ℕ) → m < 2 ^ prec f → (m * 2 ^ j ≡ r → ⊥) → (r + m * 2 ^ j) * (r + m * 2 ^ j) ≡ 4 * n
      → held.digits % 2 ≡ 0

-- r is the nearest to a / c among the values of f, a tie to the even one. r is such a value; the half-way point of r
-- and any smaller value is at most a / c, and that of r and any larger value at least a / c; where another value is as
-- near, the last of r's digits is even
pub record IsNearestTo (f : Format) (a c r : ℕ) : Type 0 where
  pub held : Held f r
  pub below : (m j : ℕ) → m < 2 ^ prec f → m * 2 ^ j < r → (r + m * 2 ^ j) * c ≤ 2 * a
  pub above : (m j : ℕ) → m < 2 ^ prec f → r < m * 2 ^ j → 2 * a ≤ (r + m * 2 ^ j) * c
  pub tie : (m j : ℕ) → m < 2 ^ prec f → (m * 2 ^ j ≡ r → ⊥) → (r + m * 2 ^ j) * c ≡ 2 * a → held.digits % 2 ≡ 0

-- y is r of f's smallest values with the sign s, and from 2 ^ (emax + 1) on the infinity of that sign
abbrev pub Gives : Format → Bool → ℕ → Float → Type 0
Gives f s r y = ((r < overflow f) × HasValue y s r (2 ^ low f)) ⊎ ((overflow f ≤ r) × (y ≡ inf s))
