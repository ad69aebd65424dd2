use borrow.Author.Rules.{rules}
use Rattle.ribbon_c.proofs.shares_of.Goals as goal

pub returns : goal.returns
returns c = rw (c.share_at-6.ensures, c.share_at-5.ensures, c.share_at-4.ensures, c.share_at-3.ensures, c.share_at-2.ensures, c.share_at.ensures)
