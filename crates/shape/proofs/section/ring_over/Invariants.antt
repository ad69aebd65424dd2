use mathlib.Core.Path.{◌≡◌}
use mathlib.Core.List.{[], ◌∷◌}
use Prim.Native.Nat.{ℕ, ◌≤◌, ◌-◌}
use lib.ListN.{get_or}
use Rattle.lists.specs.Put.{put, upto}
use Rattle.shape.specs.Ring.{point_on, normal_on, spoke_past}
use Rattle.shape.proofs.section.ring_over.Given as goal

abbrev pub invariant-loop-k : goal.invariant-loop-k
invariant-loop-k l = (l.k ≤ 8) × (l.positions ≡ put l.initial.positions 0 (upto (λ (j : ℕ). point_on l.center l.guide l.binormal (get_or l.spokes j spoke_past) ∷ []) l.k)) × (l.normals ≡ put l.initial.normals 0 (upto (λ (j : ℕ). normal_on l.guide l.binormal (get_or l.spokes j spoke_past) ∷ []) l.k))
