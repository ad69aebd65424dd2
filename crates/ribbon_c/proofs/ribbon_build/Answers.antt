use borrow.Author.Rules.{rules}
use Rattle.ribbon_c.proofs.ribbon_build.Goals as goal

pub returns : goal.returns
returns c = record { answer = _; promise = c.build-a.ensures; words = c.built_words.ensures }
