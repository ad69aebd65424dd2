use Prim.Native.Nat.{ℕ, ◌+◌, ◌≤◌, ◌<◌, ◌-◌}
use native.Mathlib.Omega.{arith}
use lib.ListN.{get_or}
use borrow.Author.Rules.{rules}
use Rattle.pdb_lines.proofs.Search.{bound_more}
use Rattle.pdb_lines.proofs.least_byte.Given as goal

abbrev pub invariant-loop-k : goal.invariant-loop-k
invariant-loop-k l = (l.k ≤ 16) × ((j : ℕ) → j < l.k → l.least ≤ get_or l.s (l.i + j) 0)
