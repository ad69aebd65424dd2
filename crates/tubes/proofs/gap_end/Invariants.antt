use Prim.Native.Nat.{ℕ, ◌≤◌, ◌<◌, ◌-◌}
use mathlib.Core.Bool.{false}
use mathlib.Core.Path.{◌≡◌}
use lib.ListN.{get_or, length}
use Rattle.protein.specs.Places.{place_of, far_by}
use Rattle.tubes.specs.Lists.{gap_in}
use Rattle.tubes.proofs.gap_end.Given as goal

abbrev pub invariant-loop-e : goal.invariant-loop-e
invariant-loop-e l = (l.p < l.e) × ((l.e ≤ length l.run) × (((j : ℕ) → j < l.e → l.p < j → gap_in (far_by (place_of l.b l.h)) l.alphas (get_or l.run (j - 1) 0) (get_or l.run j 0) ≡ false) × (l.last ≡ place_of l.b l.h (get_or l.alphas (get_or l.run (l.e - 1) 0) 0))))
