use Rattle.appearance.specs.Index.{slot}
use mathlib.Core.Path.{refl}
use native.Mathlib.Nat.{mod-lt}
use lib.Dec.{lit<}
use borrow.Author.Rules.{rules}
use Rattle.appearance.proofs.slot_of.Goals as goal

pub returns : goal.returns
unfolding slot
returns c = (refl, mod-lt _ (lit< tt))
