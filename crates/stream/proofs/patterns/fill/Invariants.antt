use Rattle.std.proofs.Common.{◌≡◌, ◌≤◌, length, ℕ, [], ◌∷◌}
use Rattle.lists.specs.Put.{put, upto}
use Rattle.stream.proofs.patterns.fill.Given as goal

abbrev pub invariant-loop-i : goal.invariant-loop-i
invariant-loop-i g l = (l.i ≤ length l.initial.buffer) × (l.buffer ≡ put l.initial.buffer 0 (upto (λ (k : ℕ). g.T.Pattern.pattern k ∷ []) l.i))
