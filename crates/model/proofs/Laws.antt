-- What a built mesh is to whoever writes it as a file. Assumes nothing.
use Prim.Native.Nat.{ℕ, ◌*◌, ◌<◌, ◌≤◌}
use mathlib.Core.Bool.{true}
use mathlib.Core.List.{List}
use mathlib.Core.Path.{◌≡◌, subst}
use native.Mathlib.Omega.{arith}
use lib.Ieee.{Float}
use lib.ListN.{length, length-take}
use lib.Seq.{get_or-take}
use Rattle.buffers.specs.declared.Counts.{Counts}
use Rattle.buffers.specs.Outs.{Outs}
use Rattle.room.specs.Room.{Buffers}
use Rattle.std.specs.Prelude.{Result, Ok}
use Rattle.job.specs.declared.Refusal.{Refusal}
use Rattle.promises.specs.Calls.{Builds}
use Rattle.consistency.specs.Consistent.{consistent}
use Rattle.consistency.proofs.Means.{consistent_means, corner_below, triangle_limit}
use Rattle.facets.specs.Facets.{Drawn}
use Rattle.stl_theorems.proofs.Demands.{built_consistent}
use Rattle.model.specs.Ready.{Ready}

pub consistent_ready : (o : Outs) (c : Counts) → consistent 8 8 o c ≡ true → Ready o.positions o.triangles o.tubes o.boxes c
consistent_ready o c e =
    let C = consistent_means 8 8 o c e in
    record {
      vertices = C.room.positions;
      corners = C.room.triangles;
      records = C.room.tubes;
      sides = C.room.boxes;
      few = triangle_limit o c e;
      drawn = λ j h.
          let n : j < 3 * c.triangles = omega (arith, length-take (3 * c.triangles) o.triangles) in
          rw (get_or-take (3 * c.triangles) o.triangles j 0 n) (omega (arith, corner_below 8 8 o c e j n, length-take (3 * c.vertices) o.positions, C.room.positions));
    }

-- every mesh that build hands out
pub mesh_ready : {s : List ℕ} {b b' : Buffers} {r : Result Counts Refusal} {c : Counts} → Builds s b r b' → r ≡ Ok c
    → Ready b'.outs.positions b'.outs.triangles b'.outs.tubes b'.outs.boxes c
mesh_ready {s} {b} {b'} {r} {c} B e = consistent_ready b'.outs c (built_consistent (subst (λ (r : Result Counts Refusal). Builds s b r b') e B))

-- corners that positions have, others that are no fewer have too
pub drawn_still : (p q : List Float) (l : List ℕ) → length p ≤ length q → Drawn p l → Drawn q l
drawn_still p q l h d j f = omega (arith, d j f)
