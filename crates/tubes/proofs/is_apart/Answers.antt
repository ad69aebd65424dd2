use borrow.Author.Tests.{eq-eqb, ne_eqb}
use Rattle.tubes.specs.Pieces.{apart}
use Rattle.tubes.proofs.is_apart.Goals as goal

pub returns-then-b-a : goal.returns-then-b-a
unfolding apart
returns-then-b-a c = simp (ne_eqb _ _ c.if-b-a.true)

pub returns : goal.returns
unfolding apart
returns c = simp (eq-eqb _ _ c.if-b-a.false)
