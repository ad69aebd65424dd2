use mathlib.Core.Path.{◌≡◌}
use Prim.Native.Nat.{ℕ, ◌≤◌, ◌-◌, ◌+◌, ◌*◌}
use Rattle.lists.specs.Put.{upto}
use Rattle.rings.specs.Post.{Wrote}
use Rattle.skin.specs.Tube.{ring_positions, ring_normals, ring_tags}
use Rattle.skin.proofs.tube.later_rings.Given as goal

abbrev pub invariant-loop-s : goal.invariant-loop-s
invariant-loop-s l = (l.s ≤ l.total) × (l.at ≡ l.v + l.s * 8) × Wrote l.initial.bounds l.initial.positions l.initial.normals l.initial.tags l.v (upto (λ (s : ℕ). ring_positions l.tube.kind l.tube.points.now l.tube.guides.now l.tube.n (s + 1)) l.s) (upto (λ (s : ℕ). ring_normals l.tube.kind l.tube.points.now l.tube.guides.now l.tube.n (s + 1)) l.s) (upto (λ (s : ℕ). ring_tags l.tube.first l.tube.n (s + 1)) l.s) l.bounds l.positions l.normals l.tags

abbrev pub decreases-loop-s : goal.decreases-loop-s
decreases-loop-s l = l.total - l.s
