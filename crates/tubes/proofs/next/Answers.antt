use native.Mathlib.Omega.{arith}
use Rattle.tubes.proofs.Laws.{each_part}
use Rattle.tubes.specs.Lists.{Placed}
use Rattle.tubes.proofs.Left.{none_left, got_piece}
use lib.ListN.{length-take, length-drop}
use Rattle.tubes.proofs.next.Goals as goal

pub returns-then-at-list : goal.returns-then-at-list
returns-then-at-list c = λ gap. none_left _ gap _ _ c.requires.1 c.if-at-list.true

pub run_end-end-requires : goal.run_end-end-requires
run_end-end-requires c =
    let pre = c.requires in record { on = (pre.1, omega (arith, pre.1.order, pre.1.end)); by_index = λ i l. omega (arith, (pre.2 i l).known, pre.3) }

pub gap_end-n-requires : goal.gap_end-n-requires
gap_end-n-requires c =
    let args = c.args in
    let p = c.run_end-end.ensures in record { whole = (c.requires.0, simp (length-take, length-drop) (omega (arith, p.more, p.end))); each = each_part (Placed args.h.atoms args.alphas.now) args.list.now _ _ (omega (arith, p.more)) p.end c.requires.2 }

pub returns : goal.returns
returns c = λ gap A. got_piece _ gap _ _ _ _ _ c.run_end-end.ensures c.gap_end-n.ensures.0 c.gap_end-n.ensures.1 c.gap_end-n.ensures.2 A
