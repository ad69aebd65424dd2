use Prim.Native.Nat.{◌≤◌}
use Rattle.pdb_notes.proofs.quote.say_bytes.Given as goal

abbrev pub invariant-loop-b : goal.invariant-loop-b
invariant-loop-b l = l.n ≤ 80
