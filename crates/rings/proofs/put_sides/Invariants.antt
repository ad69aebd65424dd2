use mathlib.Core.List.{[], ◌∷◌}
use Prim.Native.Nat.{ℕ, ◌-◌, ◌≤◌}
use lib.ListN.{get_or}
use Rattle.lists.specs.Put.{upto}
use Rattle.vectors.specs.Vec.{floats}
use Rattle.shape.specs.Ring.{point_on, normal_on, spoke_past}
use Rattle.rings.specs.Post.{Wrote}
use Rattle.rings.proofs.put_sides.Given as goal

abbrev pub invariant-loop-k : goal.invariant-loop-k
invariant-loop-k l = (l.k ≤ 8) × Wrote l.initial.bounds l.initial.positions l.initial.normals l.initial.tags l.v (upto (λ (j : ℕ). floats (point_on l.center l.guide l.binormal (get_or l.spokes j spoke_past))) l.k) (upto (λ (j : ℕ). floats (normal_on l.guide l.binormal (get_or l.spokes j spoke_past))) l.k) (upto (λ (j : ℕ). l.tag ∷ []) l.k) l.bounds l.positions l.normals l.tags
