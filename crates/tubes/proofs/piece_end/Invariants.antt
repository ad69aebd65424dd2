use Prim.Native.Nat.{ℕ, ◌≤◌, ◌<◌, ◌-◌}
use mathlib.Core.Bool.{false}
use mathlib.Core.Path.{◌≡◌}
use lib.ListN.{get_or, length}
use Rattle.tubes.specs.Pieces.{apart}
use Rattle.tubes.proofs.piece_end.Given as goal

abbrev pub invariant-loop-e : goal.invariant-loop-e
invariant-loop-e l = (l.p < l.e) × ((l.e ≤ length l.list) × ((j : ℕ) → j < l.e → l.p < j → apart (λ k. get_or l.codes k 0) (get_or l.list (j - 1) 0) (get_or l.list j 0) ≡ false))
