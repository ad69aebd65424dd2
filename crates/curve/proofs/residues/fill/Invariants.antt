use mathlib.Core.Path.{◌≡◌}
use Prim.Native.Nat.{ℕ, ◌-◌, ◌≤◌}
use Rattle.lists.specs.Put.{put}
use Rattle.vectors.specs.Vec.{floats_of}
use Rattle.curve.proofs.residues.fill.Given as goal

abbrev pub invariant-loop-i : goal.invariant-loop-i
invariant-loop-i l = (l.i ≤ l.n) × (l.g ≡ put l.initial.g 0 (floats_of (λ (j : ℕ). l.v) l.i))
