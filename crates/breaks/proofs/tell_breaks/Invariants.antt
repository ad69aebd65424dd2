use Prim.Native.Nat.{◌≤◌}
use Rattle.breaks.proofs.tell_breaks.Given as goal

abbrev pub invariant-loop-r : goal.invariant-loop-r
invariant-loop-r l = l.n ≤ l.r
