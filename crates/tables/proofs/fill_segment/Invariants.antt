use Prim.Native.Nat.{◌≤◌, ◌<◌, ◌-◌}
use mathlib.Core.Path.{◌≡◌}
use mathlib.Core.Bool.{true}
use Rattle.protein.specs.Job.{job_of}
use Rattle.stretch.specs.Stretch.{ranged}
use Rattle.tables.specs.Table.{Filling}
use Rattle.tables.proofs.fill_segment.Given as goal

abbrev pub invariant-loop-a : goal.invariant-loop-a
invariant-loop-a l = (l.a ≤ l.n) × (l.a < l.n → ranged (job_of l.b l.h) l.g l.a ≡ true) × Filling (job_of l.b l.h) l.g l.full l.residues l.alphas l.oxygens l.initial.t l.t l.seen l.a

abbrev pub decreases-loop-a : goal.decreases-loop-a
decreases-loop-a l = l.n - l.a
