use Prim.Native.Nat.{◌≤◌, ◌-◌}
use Rattle.protein.specs.Job.{job_of}
use Rattle.stretch.specs.Stretch.{Outside}
use Rattle.stretch.proofs.past_inside.Given as goal

abbrev pub invariant-loop-a : goal.invariant-loop-a
invariant-loop-a l = (l.from ≤ l.a) × (l.a ≤ l.h.atoms) × Outside (job_of l.b l.h) l.g l.a l.h.atoms
