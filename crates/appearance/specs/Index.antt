-- An index that finds a key among many without a search of them all. Keys fall into 16,384 slots; the index holds, counted from 1, the last key
-- of each slot and, for each key, the one before it of its own slot.
use Rattle.std.specs.Prelude.{ℕ, suc, ◌+◌, ◌*◌, ◌/◌, ◌%◌, ◌<◌, ◌≤◌, List, ◌++◌, Bool, ◌≡◌, eqb, length, get_or, Option, MatchOption}
use Rattle.lists.specs.Search.{last}
use Rattle.appearance.specs.Order.{order}

-- a key's slot: any function would do; this one spreads the names of a file's residues
unfoldable pub slot : ℕ → ℕ
slot x = (x / 256 + x / 2199023255552 * 613) % 16384

-- key i is x
unfoldable pub is_key : List ℕ → ℕ → ℕ → Bool
is_key keys x i = eqb (get_or keys i 0) x

-- the answer to the question which of the first n keys is x: the last of them that is, or none
abbrev pub Finds : List ℕ → ℕ → ℕ → Option ℕ → Type 0
Finds keys n x r = MatchOption r (last (is_key keys x) n ≡ 0) (λ i. (last (is_key keys x) n ≡ suc i) × (i < n))

-- key i is of slot h
unfoldable pub in_slot : List ℕ → ℕ → ℕ → Bool
in_slot keys h i = eqb (slot (get_or keys i 0)) h

-- the first n keys are indexed
pub record Index (keys links : List ℕ) (n : ℕ) : Type 0 where
  pub keys_size : length keys ≡ 16384
  pub links_size : length links ≡ 32768
  pub few : n ≤ 16384
  pub head : (h : ℕ) → h < 16384 → get_or links h 0 ≡ last (in_slot keys h) n
  pub link : (i : ℕ) → i < n → get_or links (16384 + i) 0 ≡ last (in_slot keys (slot (get_or keys i 0))) i

-- the first n keys are those of l, each once, in the order of first appearance
pub record Keyed (keys : List ℕ) (n : ℕ) (l : List ℕ) : Type 0 where
  pub count : n ≡ length (order l)
  pub key : (i : ℕ) → i < n → get_or keys i 0 ≡ get_or (order l) i 0

-- the first n keys are indexed, and are those of l, each once; where all 16,384 places are taken, l may have more
pub record Holding (keys links : List ℕ) (n : ℕ) (l : List ℕ) : Type 0 where
  pub index : Index keys links n
  pub keyed : n < 16384 → Keyed keys n l

-- what was held before is held after, with the keys of xs behind it
abbrev pub Gains : List ℕ → List ℕ → ℕ → List ℕ → List ℕ → ℕ → List ℕ → Type 0
Gains keys links n keys' links' m xs = (l : List ℕ) → Holding keys links n l → Holding keys' links' m (l ++ xs)
