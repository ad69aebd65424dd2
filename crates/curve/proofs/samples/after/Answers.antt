use borrow.Author.Tests.{eq-eqb, ne_eqb}
use Rattle.curve.proofs.samples.after.Goals as goal

pub returns-then-i-n : goal.returns-then-i-n
returns-then-i-n c = rw (eq-eqb _ _ c.if-i-n.true, c.add.ensures, c.sub.ensures)

pub returns : goal.returns
returns c = rw (ne_eqb _ _ c.if-i-n.false) c.get_vec.ensures
