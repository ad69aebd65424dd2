use Prim.Native.Nat.{◌≤◌, ◌-◌, ◌+◌}
use Rattle.tables.specs.Wants.{gives, found}
use Rattle.protein.specs.Job.{job_of}
use Rattle.scratch.specs.Scratch.{Filled}
use Rattle.tables.proofs.fill.Given as goal

abbrev pub invariant-loop-a : goal.invariant-loop-a
invariant-loop-a l = (l.a ≤ l.h.atoms) × Filled (λ r. found l.which (gives (job_of l.b l.h) l.w (0 + r)) l.a) (l.base + 0) (l.h.residues - 0) l.initial.t l.t
