use borrow.Author.Tests.{eq-eqb, ne_eqb}
use Rattle.curve.proofs.samples.before.Goals as goal

pub returns-then-i-eq0 : goal.returns-then-i-eq0
returns-then-i-eq0 c = rw (eq-eqb _ _ c.if-i-eq0.true, c.add.ensures, c.sub.ensures)

pub returns : goal.returns
returns c = rw (ne_eqb _ _ c.if-i-eq0.false) c.get_vec.ensures
