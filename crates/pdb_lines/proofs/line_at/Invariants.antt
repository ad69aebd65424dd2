use Prim.Native.Nat.{◌≤◌, ◌-◌}
use mathlib.Core.Path.{◌≡◌, sym, ◌∙◌}
use native.Mathlib.Omega.{arith}
use lib.ListN.{length, take, drop}
use borrow.Author.Rules.{rules}
use Rattle.pdb_lines.specs.Lines.{lines}
use Rattle.pdb_lines.proofs.Laws.{ontos, turn, found, over}
use Rattle.pdb_lines.proofs.Search.{plain_lines}
use Rattle.pdb_lines.proofs.line_at.Given as goal

abbrev pub invariant-loop-i : goal.invariant-loop-i
invariant-loop-i l = (l.at ≤ l.i) × (l.i ≤ length l.s) × (lines (drop l.at l.s) ≡ ontos (take (l.i - l.at) (drop l.at l.s)) (lines (drop l.i l.s)))
