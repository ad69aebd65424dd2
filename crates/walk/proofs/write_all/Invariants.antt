use Prim.Native.Nat.{◌*◌}
use mathlib.Core.Bool.{true}
use mathlib.Core.Path.{◌≡◌}
use lib.ListN.{length, drop}
use Rattle.protein.specs.Job.{job_of, segments_of}
use Rattle.protein.specs.Places.{place_of, far_by}
use Rattle.tubes.specs.List.{tube_list}
use Rattle.protein.specs.Protein.{protein_of}
use Rattle.scratch.specs.Scratch.{Kept}
use Rattle.buffers.specs.Outs.{outs}
use Rattle.walk.specs.Walk.{Left}
use Rattle.trail.specs.Place.{At, left_at, steps}
use Rattle.walk.proofs.write_all.Given as goal

abbrev pub invariant-loop-from : goal.invariant-loop-from
invariant-loop-from l = At (job_of l.b l.h) (segments_of l.q) true l.scratch l.c × Kept (2 * l.h.residues) (8 * l.h.residues) l.initial.scratch l.scratch × ((length l.floats ≡ length l.initial.floats) × (drop (6 * l.h.residues) l.floats ≡ drop (6 * l.h.residues) l.initial.floats))
    × Left (protein_of l.b l.h) (tube_list (protein_of l.b l.h) (segments_of l.q)) l.initial.s (outs l.initial.positions l.initial.normals l.initial.tags l.initial.triangles l.initial.records l.initial.boxes) (left_at (job_of l.b l.h) (segments_of l.q) (far_by (place_of l.b l.h)) l.scratch l.c) l.s (outs l.positions l.normals l.tags l.triangles l.records l.boxes)

abbrev pub decreases-loop-from : goal.decreases-loop-from
decreases-loop-from l = steps l.h.residues l.c
