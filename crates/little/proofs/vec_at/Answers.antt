use Rattle.little.specs.Little.{le_vec_at}
use borrow.Author.Rules.{rules}
use Rattle.little.proofs.vec_at.Goals as goal

pub returns : goal.returns
unfolding le_vec_at
returns c = rw (c.float_at.ensures, c.float_at-2.ensures, c.float_at-3.ensures)
