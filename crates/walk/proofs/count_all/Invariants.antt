use Prim.Native.Nat.{◌*◌, ◌≤◌}
use mathlib.Core.Bool.{false}
use mathlib.Core.Path.{◌≡◌}
use Rattle.protein.specs.Job.{job_of, segments_of}
use Rattle.protein.specs.Places.{place_of, far_by}
use Rattle.tubes.specs.List.{tube_list}
use Rattle.protein.specs.Protein.{protein_of}
use Rattle.scratch.specs.Scratch.{Kept}
use Rattle.walk.specs.Walk.{counted}
use Rattle.trail.specs.Place.{At, left_at, steps}
use Rattle.walk.proofs.count_all.Given as goal

abbrev pub invariant-loop-from : goal.invariant-loop-from
invariant-loop-from l = At (job_of l.b l.h) (segments_of l.q) false l.scratch l.c × Kept (2 * l.h.residues) (8 * l.h.residues) l.initial.scratch l.scratch × (l.s.triangles ≤ 2 * l.s.vertices) × (counted l.s (left_at (job_of l.b l.h) (segments_of l.q) (far_by (place_of l.b l.h)) l.scratch l.c) ≡ counted l.initial.s (tube_list (protein_of l.b l.h) (segments_of l.q)))

abbrev pub decreases-loop-from : goal.decreases-loop-from
decreases-loop-from l = steps l.h.residues l.c
