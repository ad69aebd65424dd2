use Prim.Native.Nat.{◌≤◌, ◌-◌}
use Rattle.tables.specs.Wants.{chain_of}
use Rattle.protein.specs.Job.{job_of}
use Rattle.scratch.specs.Scratch.{Filled}
use Rattle.tables.proofs.to_chains.Given as goal

abbrev pub invariant-loop-i : goal.invariant-loop-i
invariant-loop-i l = (l.i ≤ l.n) × Filled (chain_of (job_of l.b l.h)) 0 l.i l.initial.t l.t
