use Prim.Native.Nat.{◌-◌}
use native.Mathlib.Omega.{arith}
use Rattle.protein.specs.Job.{job_of}
use Rattle.stretch.proofs.Laws.{spans_turn}
use Rattle.stretch.proofs.span.Goals as goal

pub returns-then-atoms-n : goal.returns-then-atoms-n
returns-then-atoms-n c = record { order = omega arith; to = omega arith; all = λ a i l. (omega arith, l) }

pub loop-a-init : goal.loop-a-init
loop-a-init c = (omega arith, λ k l m. absurd (omega arith))

pub loop-a-preserved : goal.loop-a-preserved
loop-a-preserved c = (c.widened-p.ensures.high _ c.loop-a.invariant.0 (λ l. l), spans_turn (job_of c.args.b.now c.args.h) _ _ _ _ _ _ c.residue.ensures c.widened-p.ensures c.loop-a.invariant.1)

pub returns-then-p : goal.returns-then-p
returns-then-p c = record { order = omega arith; to = omega arith; all = λ a i l. let z = c.loop-a.invariant.1 a i.0 (omega (arith, i.1)) l in absurd (omega arith) }

pub returns : goal.returns
returns c = record { order = omega arith; to = c.loop-a.invariant.0; all = λ a i l. c.loop-a.invariant.1 a i.0 (omega (arith, i.1)) l }
