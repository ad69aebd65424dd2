use Prim.Native.Nat.{◌≤◌, ◌-◌, ◌+◌}
use mathlib.Core.Bool.{cond}
use lib.ListN.{get_or}
use Rattle.scratch.specs.Scratch.{Filled}
use Rattle.tubes.specs.Tubes.{given}
use Rattle.segments.proofs.cover.Given as goal

abbrev pub invariant-loop-i : goal.invariant-loop-i
invariant-loop-i l = (l.i ≤ l.n) × Filled (λ r. cond (given (get_or l.initial.t (l.from + r) 0)) 1 (get_or l.initial.t (l.base + r) 0)) l.base l.i l.initial.t l.t
