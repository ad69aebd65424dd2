use mathlib.Core.Path.{◌≡◌}
use Prim.Native.Nat.{ℕ, ◌≤◌, ◌-◌, ◌+◌, ◌*◌}
use Rattle.lists.specs.Put.{upto}
use Rattle.rings.specs.Post.{Wrote}
use Rattle.skin.specs.Tube.{ring_positions, ring_normals, ring_tags}
use Rattle.skin.proofs.tube.span_rings.Given as goal

abbrev pub invariant-loop-j : goal.invariant-loop-j
invariant-loop-j l = (l.j ≤ l.count) × (l.at ≡ l.v + l.j * 8) × Wrote l.initial.bounds l.initial.positions l.initial.normals l.initial.tags l.v (upto (λ (j : ℕ). ring_positions l.tube.kind l.tube.points.now l.tube.guides.now l.tube.n (l.from + j)) l.j) (upto (λ (j : ℕ). ring_normals l.tube.kind l.tube.points.now l.tube.guides.now l.tube.n (l.from + j)) l.j) (upto (λ (j : ℕ). ring_tags l.tube.first l.tube.n (l.from + j)) l.j) l.bounds l.positions l.normals l.tags
