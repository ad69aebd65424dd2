use Prim.Native.Nat.{◌+◌, ◌-◌, ◌≤◌}
use Rattle.shape.specs.Guide.{smooth_position}
use Rattle.smooth.proofs.Laws.{Turned}
use Rattle.smooth.proofs.positions.position_pass.Given as goal

abbrev pub invariant-loop-i : goal.invariant-loop-i
invariant-loop-i l = (1 ≤ l.i) × (l.i + 1 ≤ l.n) × Turned smooth_position l.n 1 (l.i - 1) l.initial.list l.list l.prev
