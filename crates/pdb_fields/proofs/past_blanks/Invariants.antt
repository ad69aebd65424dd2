use Prim.Native.Nat.{◌≤◌, ◌-◌, ◌+◌}
use mathlib.Core.Path.{◌≡◌, refl}
use native.Mathlib.Omega.{arith}
use lib.ListN.{length, drop}
use borrow.Author.Tests.{eq-eqb, ne_eqb}
use borrow.Author.Rules.{rules}
use Rattle.pdb_fields.specs.Numbers.{run, is_blank}
use Rattle.pdb_fields.proofs.Laws.{stop_over, stop_no, run_turn}
use Rattle.pdb_fields.proofs.past_blanks.Given as goal

abbrev pub invariant-loop-k : goal.invariant-loop-k
invariant-loop-k l = (l.i ≤ l.k) × (l.k ≤ length l.l) × (l.i + run is_blank (drop l.i l.l) ≡ l.k + run is_blank (drop l.k l.l))
