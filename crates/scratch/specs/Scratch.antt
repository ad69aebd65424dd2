-- What lent scratch words hold after stores.
use Rattle.std.specs.Prelude.{ℕ, ◌+◌, ◌<◌, ◌≤◌, List, ◌≡◌, length, get_or, Bool, true, cond}

-- the n places from `base` on hold f 0, .., f (n - 1); every other place of the scratch is as it was
pub record Filled (f : ℕ → ℕ) (base n : ℕ) (t₀ t : List ℕ) : Type 0 where
  pub size : length t ≡ length t₀
  pub entry : (r : ℕ) → r < n → get_or t (base + r) 0 ≡ f r
  pub before : (j : ℕ) → j < base → get_or t j 0 ≡ get_or t₀ j 0
  pub after : (j : ℕ) → base + n ≤ j → get_or t j 0 ≡ get_or t₀ j 0

-- two tables of n places, at a and behind it at o: the first holds f, and where they are full the second holds g; the places before the first and behind the
-- second are as they were
pub record Both (full : Bool) (f g : ℕ → ℕ) (a o n : ℕ) (t₀ t : List ℕ) : Type 0 where
  pub size : length t ≡ length t₀
  pub first : (r : ℕ) → r < n → get_or t (a + r) 0 ≡ f r
  pub second : full ≡ true → (r : ℕ) → r < n → get_or t (o + r) 0 ≡ g r
  pub before : (j : ℕ) → j < a → get_or t j 0 ≡ get_or t₀ j 0
  pub after : (j : ℕ) → o + n ≤ j → get_or t j 0 ≡ get_or t₀ j 0

-- 1 where the test holds
abbrev pub bit : Bool → ℕ
bit b = cond b 1 0

-- only the places from lo to hi may differ
pub record Kept (lo hi : ℕ) (t₀ t : List ℕ) : Type 0 where
  pub size : length t ≡ length t₀
  pub before : (j : ℕ) → j < lo → get_or t j 0 ≡ get_or t₀ j 0
  pub after : (j : ℕ) → hi ≤ j → get_or t j 0 ≡ get_or t₀ j 0
