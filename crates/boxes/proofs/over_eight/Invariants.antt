use mathlib.Core.Path.{◌≡◌}
use Prim.Native.Nat.{ℕ, ◌≤◌, ◌-◌}
use lib.ListN.{get_or}
use Rattle.lists.specs.Put.{upto}
use Rattle.vectors.specs.Vec.{floats, vpast}
use Rattle.boxes.specs.Bounds.{grown_by}
use Rattle.boxes.proofs.over_eight.Given as goal

abbrev pub invariant-loop-k : goal.invariant-loop-k
invariant-loop-k l = (l.bounds ≡ grown_by l.initial.bounds (upto (λ (j : ℕ). floats (get_or l.ps j vpast)) l.k)) × (l.k ≤ 8)
