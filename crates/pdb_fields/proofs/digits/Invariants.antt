use Prim.Native.Nat.{◌≤◌, ◌<◌, ◌-◌, ◌+◌}
use mathlib.Core.Path.{◌≡◌, refl, sym, ◌∙◌}
use native.Mathlib.Omega.{arith}
use lib.ListN.{length, take, drop, get_or}
use borrow.Author.Rules.{rules}
use Prim.Native.Nat.{◌^◌}
use Rattle.pdb_fields.specs.Numbers.{run, is_digit, decimal}
use Rattle.pdb_fields.proofs.Laws.{run_over, run_no, run_turn, digits_stop, digit_from, digit_to, decimal_more, grown, small}
use Rattle.pdb_fields.proofs.digits.Given as goal

abbrev pub invariant-loop-k : goal.invariant-loop-k
invariant-loop-k l = (l.i ≤ l.k) × (l.k ≤ length l.l) × (l.i + run is_digit (drop l.i l.l) ≡ l.k + run is_digit (drop l.k l.l)) × (decimal l.v (take (run is_digit (drop l.i l.l)) (drop l.i l.l)) ≡ decimal l.value (take (run is_digit (drop l.k l.l)) (drop l.k l.l))) × (l.value < 10 ^ l.k)
