use Rattle.job.specs.Check.{stray}
use borrow.Author.Tests.{eq-eqb, ne_eqb}
use Rattle.job.proofs.is_stray.Goals as goal

pub returns-then-v-eq65535 : goal.returns-then-v-eq65535
unfolding stray
returns-then-v-eq65535 c = simp (eq-eqb _ _ c.if-v-eq65535.true)

pub returns : goal.returns
unfolding stray
returns c = simp (ne_eqb _ _ c.if-v-eq65535.false)
