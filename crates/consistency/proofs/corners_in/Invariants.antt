use Prim.Native.Nat.{ℕ, ◌≤◌, ◌-◌, ◌+◌}
use mathlib.Core.Path.{◌≡◌, sym, ◌∙◌, ap}
use lib.ListN.{length}
use lib.Dec.{eqb}
use native.Mathlib.Omega.{arith}
use Rattle.lists.specs.Search.{every}
use Rattle.consistency.proofs.Laws.{between, lost_none, lost_more, corners_are_lem}
use borrow.Author.Rules.{rules}
use Rattle.consistency.proofs.corners_in.Given as goal

abbrev pub invariant-loop-i : goal.invariant-loop-i
invariant-loop-i l = (l.i ≤ length l.corners) × (every (between l.low (l.low + l.span) l.corners) l.i ≡ eqb l.lost 0) × (l.lost ≤ l.i)
