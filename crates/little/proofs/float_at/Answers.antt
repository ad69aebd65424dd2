use mathlib.Core.Path.{ap, ◌∙◌}
use lib.Ieee.{binary32, of_bits}
use borrow.Author.Rules.{rules}
use Rattle.little.proofs.float_at.Goals as goal

pub returns : goal.returns
returns c = c.float_of.ensures ∙ ap (of_bits binary32) c.le32_at.ensures.0
