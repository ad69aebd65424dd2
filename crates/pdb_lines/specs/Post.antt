-- What the end of a line, a search for it, and a cut of a line, promise.
use Rattle.std.specs.Prelude.{ℕ, ◌-◌, ◌≤◌, ◌<◌, List, [], ◌∷◌, ◌&&◌, cond, ◌≡◌, eqb, length, take, drop}
use Rattle.pdb_lines.specs.Lines.{lines, at_lf}

-- how many bytes end a line here: 1 for an LF, 2 for a CR and an LF, 0 where no line ends
abbrev pub ending : List ℕ → ℕ
ending [] = 0
ending (b ∷ s) = cond (eqb b 10) 1 (cond (eqb b 13 && at_lf s) 2 0)

-- from place at up to place i no line ends
pub record Plain (s : List ℕ) (at i : ℕ) : Type 0 where
  pub start : at ≤ i
  pub end : i ≤ length s
  pub none : (k : ℕ) → at ≤ k → k < i → ending (drop k s) ≡ 0

-- the line at `at` is s[at..to], and the next starts at `next`
pub record Cut (s : List ℕ) (at to next : ℕ) : Type 0 where
  pub cut : lines (drop at s) ≡ take (to - at) (drop at s) ∷ lines (drop next s)
  pub start : at ≤ to
  pub end : to ≤ length s
  pub onward : at < next
  pub within : next ≤ length s
