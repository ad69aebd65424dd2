use Prim.Native.Nat.{◌*◌, ◌≤◌}
use mathlib.Core.Path.{◌≡◌}
use Rattle.protein.specs.Job.{job_of, segments_of}
use Rattle.protein.specs.Places.{place_of, far_by}
use Rattle.scratch.specs.Scratch.{Kept}
use Rattle.trail.specs.Place.{At, left_at, steps}
use Rattle.trail.proofs.next_tube.Given as goal

abbrev pub invariant-loop-p : goal.invariant-loop-p
invariant-loop-p l = At (job_of l.b l.h) (segments_of l.q) l.full l.scratch l.at × Kept (2 * l.h.residues) (8 * l.h.residues) l.initial.scratch l.scratch × (left_at (job_of l.b l.h) (segments_of l.q) (far_by (place_of l.b l.h)) l.initial.scratch l.initial.at ≡ left_at (job_of l.b l.h) (segments_of l.q) (far_by (place_of l.b l.h)) l.scratch l.at) × (steps l.h.residues l.at ≤ steps l.h.residues l.initial.at)

abbrev pub decreases-loop-p : goal.decreases-loop-p
decreases-loop-p l = steps l.h.residues l.at
