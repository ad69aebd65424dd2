use Rattle.job.specs.Check.{unshared}
use borrow.Author.Tests.{eq-eqb, ne_eqb}
use Rattle.job.proofs.is_unshared.Goals as goal

pub returns-then-h-ne0 : goal.returns-then-h-ne0
unfolding unshared
returns-then-h-ne0 c = simp (ne_eqb _ _ c.if-h-ne0.true)

pub returns-then-n-ne0 : goal.returns-then-n-ne0
unfolding unshared
returns-then-n-ne0 c = simp (eq-eqb _ _ c.if-h-ne0.false, ne_eqb _ _ c.if-n-ne0.true)

pub returns : goal.returns
unfolding unshared
returns c = simp (eq-eqb _ _ c.if-h-ne0.false, eq-eqb _ _ c.if-n-ne0.false)
