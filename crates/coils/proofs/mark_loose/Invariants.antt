use Prim.Native.Nat.{◌≤◌, ◌-◌, ◌*◌}
use Rattle.scratch.specs.Scratch.{bit, Filled}
use Rattle.protein.specs.Job.{job_of}
use Rattle.tubes.specs.Tubes.{loose}
use Rattle.coils.specs.Coils.{covered_in}
use Rattle.coils.proofs.mark_loose.Given as goal

abbrev pub invariant-loop-r : goal.invariant-loop-r
invariant-loop-r l = (l.r ≤ l.h.residues) × Filled (λ k. bit (loose (job_of l.b l.h) (covered_in l.initial.t l.h.residues) k)) (2 * l.h.residues) l.r l.initial.t l.t
