use Prim.Native.Nat.{◌<◌}
use Rattle.protein.specs.Job.{job_of}
use Rattle.stretch.specs.Stretch.{Up}
use Rattle.stretch.proofs.end_of_run.Given as goal

abbrev pub invariant-loop-a : goal.invariant-loop-a
invariant-loop-a l = Up (job_of l.b l.h).serial l.from l.a × (l.from < l.a)
