use Prim.Native.Nat.{ℕ, ◌-◌}
use mathlib.Core.Bool.{false}
use mathlib.Core.Path.{sym, ap, ◌∙◌}
use lib.ListN.{get_or}
use native.Mathlib.Omega.{arith}
use borrow.Author.Count.{below_more}
use Rattle.protein.specs.Places.{place_of, far_by}
use Rattle.tubes.specs.Lists.{gap_in}
use Rattle.tubes.proofs.Laws.{piece_at}
use Rattle.tubes.proofs.gap_end.Goals as goal

pub overflow_cast-run : goal.overflow_cast-run
overflow_cast-run c = omega (arith, c.type_inv.run c.args.p)

pub place_of-last-requires : goal.place_of-last-requires
place_of-last-requires c = (c.requires.whole.0, c.requires.each c.args.p (omega arith))

pub loop-e-init : goal.loop-e-init
loop-e-init c =
    let args = c.args in
    (omega arith, (omega arith, ((λ j l m. absurd (omega arith)), c.place_of-last.ensures ∙ ap (λ (k : ℕ). place_of args.b.now args.h (get_or args.alphas.now (get_or args.run.now k 0) 0)) (omega arith))))

pub overflow_cast-run-in-loop-e : goal.overflow_cast-run-in-loop-e
overflow_cast-run-in-loop-e c = omega (arith, c.type_inv.run c.loop-e.e)

pub place_of-next-requires : goal.place_of-next-requires
place_of-next-requires c = (c.requires.whole.0, c.requires.each c.loop-e.e (omega arith))

pub returns-then-is_long : goal.returns-then-is_long
unfolding gap_in far_by
returns-then-is_long c = (omega arith, omega arith, piece_at _ _ _ _ (omega arith) (omega arith) c.loop-e.invariant.1.1.0 (λ l. sym (rw (c.loop-e.invariant.1.1.1, c.place_of-next.ensures) at c.is_long.ensures) ∙ c.if-is_long.true))

pub loop-e-preserved : goal.loop-e-preserved
unfolding gap_in far_by
loop-e-preserved c =
    let args = c.args in
    (omega arith, (omega arith, (below_more _ _ c.loop-e.invariant.1.1.0 (λ m. sym (rw (c.loop-e.invariant.1.1.1, c.place_of-next.ensures) at c.is_long.ensures) ∙ c.if-is_long.false), c.place_of-next.ensures ∙ ap (λ (k : ℕ). place_of args.b.now args.h (get_or args.alphas.now (get_or args.run.now k 0) 0)) (omega arith))))

pub returns : goal.returns
returns c = (omega arith, omega arith, piece_at _ _ _ _ (omega arith) (omega arith) (λ j l m. c.loop-e.invariant.1.1.0 j (omega arith) m) (λ l. absurd (omega arith)))
