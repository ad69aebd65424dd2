use Rattle.ribbon_c.proofs.planned_words.Goals as goal

pub returns-in-Ok : goal.returns-in-Ok
returns-in-Ok c = rw (c.word-in-Ok-7.ensures, c.word-in-Ok-6.ensures, c.word-in-Ok-5.ensures, c.word-in-Ok-4.ensures, c.word-in-Ok-3.ensures, c.word-in-Ok-2.ensures, c.word-in-Ok.ensures, c.word.ensures, c.in-Ok.is)

pub returns-in-Err : goal.returns-in-Err
returns-in-Err c = rw (c.refusal_words-w.ensures, c.in-Err.is)
