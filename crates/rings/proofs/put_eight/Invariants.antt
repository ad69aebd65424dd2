use mathlib.Core.Path.{◌≡◌}
use Prim.Native.Nat.{ℕ, ◌≤◌, ◌-◌}
use lib.ListN.{get_or}
use Rattle.vectors.specs.Vec.{floats, vpast}
use Rattle.lists.specs.Put.{put, upto}
use Rattle.rings.proofs.put_eight.Given as goal

abbrev pub invariant-loop-k : goal.invariant-loop-k
invariant-loop-k l = (l.k ≤ 8) × (l.out ≡ put l.initial.out l.at (upto (λ (j : ℕ). floats (get_or l.ps j vpast)) l.k))
