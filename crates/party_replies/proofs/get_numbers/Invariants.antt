use Prim.Native.Nat.{ℕ, ◌≤◌, ◌-◌, ◌*◌, ◌+◌}
use mathlib.Core.Path.{◌≡◌, refl, ◌∙◌}
use mathlib.Core.List.{[], ◌∷◌}
use native.Mathlib.Omega.{arith}
use Rattle.lists.specs.Put.{put, upto}
use Rattle.lists.proofs.Puts.{set_turn, kept}
use Rattle.numbers.specs.Bytes.{u32_at}
use Rattle.party_replies.proofs.get_numbers.Given as goal

abbrev pub invariant-loop-i : goal.invariant-loop-i
invariant-loop-i l = (l.i ≤ 12) × (l.n ≡ put l.initial.n l.to (upto (λ (k : ℕ). u32_at l.b (l.at + k * 4) ∷ []) l.i))
