use Prim.Native.Nat.{ℕ, ◌≤◌, ◌-◌}
use mathlib.Core.Path.{◌≡◌}
use lib.ListN.{get_or}
use Rattle.lists.specs.Put.{put}
use Rattle.protein.specs.Places.{place_of}
use Rattle.vectors.specs.Vec.{floats_of}
use Rattle.mesh.specs.Mesh.{spot_of}
use Rattle.mesh.proofs.load.Given as goal

abbrev pub invariant-loop-i : goal.invariant-loop-i
invariant-loop-i l = (l.i ≤ l.n) × (l.course ≡ put l.initial.course l.at (floats_of (λ (k : ℕ). spot_of (place_of l.b l.h) (get_or l.atoms k 0)) l.i))
