use mathlib.Core.Path.{sym}
use Rattle.scaling.proofs.Demands.{factor_means}
use borrow.Author.Rules.{rules}
use Rattle.ribbon_command.proofs.run_words.Goals as goal

pub run-requires : goal.run-requires
run-requires c = (factor_means _ _ (sym c.in-Some.ensures)).1
