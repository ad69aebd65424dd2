-- What a search for the next line of a kind promises.
use Rattle.std.specs.Prelude.{ℕ, ◌-◌, ◌≤◌, ◌<◌, List, [], ◌∷◌, Bool, ◌≡◌, length, take, drop, Option, Some, None}
use Rattle.pdb_search.specs.Kinds.{lines_from}
use Rattle.pdb_search.specs.declared.What.{What}
use Rattle.pdb_search.specs.declared.Spot.{Spot}

-- the next line of the kind stands at the spot, and the others behind it
pub record Onward (w : What) (s : List ℕ) (at : ℕ) (seen : Bool) (p : Spot) : Type 0 where
  pub is : lines_from w s at seen ≡ take (p.to - p.at) (drop p.at s) ∷ lines_from w s p.next p.seen
  pub start : p.at ≤ p.to
  pub end : p.to ≤ length s
  pub more : at < p.next
  pub within : p.next ≤ length s

abbrev pub Found : What → List ℕ → ℕ → Bool → Option Spot → Type 0
Found w s at seen None = lines_from w s at seen ≡ []
Found w s at seen (Some p) = Onward w s at seen p
