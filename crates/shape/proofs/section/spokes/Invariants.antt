use mathlib.Core.Path.{◌≡◌}
use mathlib.Core.List.{[], ◌∷◌}
use Prim.Native.Nat.{ℕ, ◌≤◌, ◌-◌}
use Rattle.lists.specs.Put.{put, upto}
use Rattle.shape.specs.Ring.{spoke_at}
use Rattle.shape.proofs.section.spokes.Given as goal

abbrev pub invariant-loop-k : goal.invariant-loop-k
invariant-loop-k l = (l.k ≤ 8) × (l.out ≡ put l.initial.out 0 (upto (λ (j : ℕ). spoke_at l.p j ∷ []) l.k))
