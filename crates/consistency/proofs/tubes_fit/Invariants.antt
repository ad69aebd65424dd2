use Prim.Native.Nat.{◌-◌, ◌+◌, ◌*◌}
use mathlib.Core.Path.{sym, ◌∙◌}
use native.Mathlib.Omega.{arith}
use borrow.Author.Rules.{rules}
use borrow.Author.Tests.{not-true, not-false, ne_eqb, eq-eqb}
use lib.ListN.{drop}
use Rattle.lists.proofs.Any.{take_le}
use Rattle.edges.proofs.Theorems.{vertex_count_lem, triangle_count_lem}
use Rattle.consistency.specs.Consistent.{residues_at}
use Rattle.consistency.proofs.Laws.{record_means}
use Rattle.consistency.proofs.Reached.{Reached, reached_none, reached_more, reached_over, record_lost, corners_lost, end_lost, past_lost}
use Rattle.consistency.proofs.tubes_fit.Given as goal

abbrev pub invariant-loop-i : goal.invariant-loop-i
invariant-loop-i l = Reached l.tubes l.triangles l.c l.vertex l.triangle l.i
