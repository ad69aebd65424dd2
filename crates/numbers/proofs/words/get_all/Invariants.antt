use Rattle.std.proofs.Common.{◌≡◌, ◌≤◌, ◌+◌, ◌*◌, length, ℕ, [], ◌∷◌}
use Rattle.lists.specs.Put.{put, upto}
use Rattle.numbers.proofs.words.get_all.Given as goal

abbrev pub invariant-loop-i : goal.invariant-loop-i
invariant-loop-i g l =
    let t = g.T.Wire in
    (l.i ≤ length l.initial.items) × (l.items ≡ put l.initial.items 0 (upto (λ (k : ℕ). t.read l.b (l.at + k * t.SIZE) ∷ []) l.i))
