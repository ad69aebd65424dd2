-- An index of the residues that segments name, with a bit for each.
use Rattle.std.specs.Prelude.{ℕ, suc, List, ◌≡◌, cond, length, get_or}
use Rattle.lists.specs.Search.{last}
use Rattle.appearance.specs.Order.{member}
use Rattle.appearance.specs.Index.{Index, is_key}

-- the bit of a key that is found says whether the key is one of l
pub record Wanted (keys links bits : List ℕ) (n : ℕ) (l : List ℕ) : Type 0 where
  pub index : Index keys links n
  pub size : length bits ≡ 16384
  pub known : (x i : ℕ) → last (is_key keys x) n ≡ suc i → get_or bits i 0 ≡ cond (member x l) 1 0
