use mathlib.Core.Path.{◌∙◌}
use borrow.Author.Rules.{rules}
use Rattle.little.proofs.put_float.Goals as goal

pub returns : goal.returns
returns c = c.put_le32.ensures ∙ rw c.float_word.ensures
