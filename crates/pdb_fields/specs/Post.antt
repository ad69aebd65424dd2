use Rattle.std.specs.Prelude.{ℕ, ◌+◌, ◌≤◌, List, ◌≡◌, length, take, drop}
use Rattle.pdb_fields.specs.Numbers.{run, is_digit, decimal}

-- the digits from i on: where they end, and the number that they stand for after v
pub record Digits (l : List ℕ) (i v next value : ℕ) : Type 0 where
  pub end : next ≡ i + run is_digit (drop i l)
  pub within : next ≤ length l
  pub number : value ≡ decimal v (take (run is_digit (drop i l)) (drop i l))
