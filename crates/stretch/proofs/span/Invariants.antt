use Prim.Native.Nat.{ℕ, ◌≤◌, ◌<◌, ◌-◌}
use Rattle.protein.specs.Job.{job_of}
use Rattle.stretch.specs.Stretch.{In}
use Rattle.stretch.proofs.span.Given as goal

abbrev pub invariant-loop-a : goal.invariant-loop-a
invariant-loop-a l = (l.p.to ≤ l.n) × ((k : ℕ) → l.fn.atoms.from ≤ k → k < l.a → (job_of l.b l.h).residue k < l.n → In l.p ((job_of l.b l.h).residue k))
