use borrow.Author.Rules.{rules}
use Rattle.ribbon_c.proofs.ribbon_read_pdb.Goals as goal

pub returns : goal.returns
returns c = record { answer = _; promise = c.read_pdb-a.ensures; words = c.size_words.ensures }
