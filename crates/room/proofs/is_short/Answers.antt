use mathlib.Core.Path.{refl}
use Rattle.room.proofs.Laws.{few_words, by_floats}
use Rattle.room.proofs.is_short.Goals as goal

pub returns-then-words-n : goal.returns-then-words-n
returns-then-words-n c = few_words c.args.h _ _ c.if-words-n.true

pub returns : goal.returns
returns c = by_floats c.args.h _ _ _ c.if-words-n.false refl
