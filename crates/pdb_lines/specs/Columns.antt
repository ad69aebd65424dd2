-- Columns of a line, counted from 1, and fixed names in them.
use Rattle.std.specs.Prelude.{ℕ, ◌-◌, List, Bool, length, take, drop, get_or}
use Rattle.lists.specs.Same.{same_list}

-- the byte in column i
abbrev pub column : ℕ → List ℕ → ℕ
column i l = get_or l (i - 1) 0

-- columns i to j
abbrev pub columns : ℕ → ℕ → List ℕ → List ℕ
columns i j l = take (j - (i - 1)) (drop (i - 1) l)

-- the name stands at column i
unfoldable pub named : List ℕ → ℕ → List ℕ → Bool
named name i l = same_list (take (length name) (drop (i - 1) l)) name
