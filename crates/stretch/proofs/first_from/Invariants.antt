use Prim.Native.Nat.{ℕ, ◌≤◌, ◌<◌, ◌-◌}
use Rattle.protein.specs.Job.{job_of}
use Rattle.stretch.proofs.first_from.Given as goal

abbrev pub invariant-loop-lo : goal.invariant-loop-lo
invariant-loop-lo l = ((a : ℕ) → l.from ≤ a → a < l.lo → (job_of l.b l.h).serial a < l.v) × ((a : ℕ) → l.hi ≤ a → a < l.to → l.v ≤ (job_of l.b l.h).serial a) × (l.from ≤ l.lo) × (l.lo ≤ l.hi) × (l.hi ≤ l.to)

abbrev pub decreases-loop-lo : goal.decreases-loop-lo
decreases-loop-lo l = l.hi - l.lo
