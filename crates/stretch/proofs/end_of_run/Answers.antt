use Prim.Native.Nat.{◌-◌}
use native.Mathlib.Omega.{arith}
use Rattle.protein.specs.Job.{job_of}
use Rattle.stretch.proofs.Laws.{up_one, up_more}
use Rattle.stretch.proofs.end_of_run.Goals as goal

pub loop-a-init : goal.loop-a-init
loop-a-init c = (up_one _ _, omega arith)

pub returns-then-serial : goal.returns-then-serial
returns-then-serial c = record { order = omega arith; few = omega arith; up = c.loop-a.invariant.0 }

pub loop-a-preserved : goal.loop-a-preserved
loop-a-preserved c =
    let args = c.args in
    (up_more (job_of args.b.now args.h).serial args.from _ c.loop-a.invariant.1 c.loop-a.invariant.0 (omega arith), omega arith)

pub returns : goal.returns
returns c = record { order = omega arith; few = omega arith; up = λ i j l h k. c.loop-a.invariant.0 i j l h (omega arith) }
