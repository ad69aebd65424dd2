use Prim.Native.Nat.{◌≤◌, ◌-◌}
use mathlib.Core.Path.{◌≡◌, refl}
use lib.ListN.{length}
use native.Mathlib.Omega.{arith}
use borrow.Author.Rules.{rules}
use Rattle.pdb_search.specs.Kinds.{lines_from}
use Rattle.pdb_search.proofs.Laws.{search_over, search_stop, search_here, search_on}
use Rattle.pdb_search.proofs.next_line.Given as goal

abbrev pub invariant-loop-from : goal.invariant-loop-from
invariant-loop-from l = (l.at ≤ l.from) × (l.from ≤ length l.s) × (lines_from l.w l.s l.at l.seen ≡ lines_from l.w l.s l.from l.model)

abbrev pub decreases-loop-from : goal.decreases-loop-from
decreases-loop-from l = length l.s - l.from
