use mathlib.Core.Path.{◌∙◌}
use Rattle.ribbon_c.proofs.built_words.Goals as goal

pub returns-in-Ok : goal.returns-in-Ok
returns-in-Ok c = rw (c.word-in-Ok-2.ensures, c.word-in-Ok.ensures, c.word.ensures, c.in-Ok.is)

pub returns-in-Err : goal.returns-in-Err
returns-in-Err c = c.refusal_words.ensures ∙ rw c.in-Err.is
