use Rattle.tubes.proofs.Laws.{piece_at}
use Prim.Native.Nat.{◌-◌}
use mathlib.Core.Bool.{false}
use mathlib.Core.Path.{sym, ◌∙◌}
use native.Mathlib.Omega.{arith}
use borrow.Author.Count.{below_more}
use Rattle.tubes.proofs.piece_end.Goals as goal

pub loop-e-init : goal.loop-e-init
loop-e-init c = (omega arith, (omega arith, λ j l m. absurd (omega arith)))

pub overflow_cast-list : goal.overflow_cast-list
overflow_cast-list c = omega (arith, c.type_inv.list (c.loop-e.e - 1))

pub overflow_cast-list-in-loop-e : goal.overflow_cast-list-in-loop-e
overflow_cast-list-in-loop-e c = omega (arith, c.type_inv.list c.loop-e.e)

pub is_apart-requires : goal.is_apart-requires
is_apart-requires c = (c.requires.by_index (c.loop-e.e - 1) (omega arith), c.requires.by_index c.loop-e.e (omega arith))

pub returns-then-is_apart : goal.returns-then-is_apart
returns-then-is_apart c = (omega arith, omega arith, piece_at _ _ _ _ (omega arith) (omega arith) c.loop-e.invariant.1.1 (λ l. sym c.is_apart.ensures ∙ c.if-is_apart.true))

pub loop-e-preserved : goal.loop-e-preserved
loop-e-preserved c = (omega arith, (omega arith, below_more _ _ c.loop-e.invariant.1.1 (λ m. sym c.is_apart.ensures ∙ c.if-is_apart.false)))

pub returns : goal.returns
returns c = (omega arith, omega arith, piece_at _ _ _ _ (omega arith) (omega arith) (λ j l m. c.loop-e.invariant.1.1 j (omega arith) m) (λ l. absurd (omega arith)))
