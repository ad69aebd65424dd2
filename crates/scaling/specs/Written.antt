-- What the theorems say of a scale as it is written.
use Rattle.std.specs.Prelude.{ℕ, ◌≤◌, List, ◌++◌, ◌∷◌, ◌≡◌, length}
use Rattle.pdb_fields.specs.Numbers.{run, is_digit}

-- nothing but digits, and how many: at least one, and at most so many
pub record Digital (most : ℕ) (l : List ℕ) : Type 0 where
  pub digits : run is_digit l ≡ length l
  pub some : 1 ≤ length l
  pub few : length l ≤ most

-- l is a, a point, and b
pub record Pointed (l a b : List ℕ) : Type 0 where
  pub bytes : l ≡ a ++ 46 ∷ b
  pub front : Digital 4 a
  pub back : Digital 3 b
