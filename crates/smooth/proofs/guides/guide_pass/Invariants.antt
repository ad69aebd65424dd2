use Prim.Native.Nat.{◌-◌, ◌≤◌}
use Rattle.shape.specs.Guide.{smooth_guide}
use Rattle.smooth.proofs.Laws.{Turned}
use Rattle.smooth.proofs.guides.guide_pass.Given as goal

abbrev pub invariant-loop-i : goal.invariant-loop-i
invariant-loop-i l = (l.i ≤ l.n) × Turned smooth_guide l.n 0 l.i l.initial.list l.list l.prev
