use borrow.Author.Rules.{rules}
use Rattle.ribbon_c.proofs.refusal_words.Goals as goal

pub returns : goal.returns
returns c = rw (c.word-4.ensures, c.word-3.ensures, c.word-2.ensures, c.word.ensures, c.refusal_numbers-n.ensures)
