use Prim.Native.Nat.{◌-◌, ◌≤◌}
use Rattle.smooth.specs.Pass.{position_pass}
use Rattle.smooth.proofs.Laws.{Passed}
use Rattle.smooth.proofs.positions.smooth_positions.Given as goal

abbrev pub invariant-loop-k : goal.invariant-loop-k
invariant-loop-k l = (l.k ≤ l.passes) × Passed (position_pass l.n) l.n l.k l.initial.list l.list
