use mathlib.Core.Path.{refl}
use Rattle.appearance.proofs.Found.{entered}
use borrow.Author.Rules.{rules}
use Rattle.appearance.proofs.enter.Goals as goal

pub returns : goal.returns
returns c = (refl, entered _ _ _ _ c.requires.0 c.requires.1 _ c.slot_of-h.ensures.0 c.slot_of-h.ensures.1)
