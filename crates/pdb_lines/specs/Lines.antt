-- The lines of a file (02 §1): 'lines end at LF, a CR before it dropped'.
use Rattle.std.specs.Prelude.{ℕ, List, [], ◌∷◌, Bool, false, ◌&&◌, cond, eqb}

-- whether an LF comes next
abbrev pub at_lf : List ℕ → Bool
at_lf [] = false
at_lf (b ∷ s) = eqb b 10

-- b in front of the first line
abbrev pub onto : ℕ → List (List ℕ) → List (List ℕ)
onto b [] = (b ∷ []) ∷ []
onto b (l ∷ ls) = (b ∷ l) ∷ ls

-- THE lines of a file: an LF, byte 10, ends one, and a CR, byte 13, right before it is dropped; a CR that no LF follows stays, and bytes after the last LF are a line
unfoldable pub lines : List ℕ → List (List ℕ)
lines [] = []
lines (b ∷ s) = cond (eqb b 10) ([] ∷ lines s) (cond (eqb b 13 && at_lf s) (lines s) (onto b (lines s)))
