use borrow.Author.Rules.{rules}
use Rattle.ribbon_c.proofs.ribbon_plan.Goals as goal

pub returns : goal.returns
returns c = record { answer = _; promise = c.plan-a.ensures; words = c.planned_words.ensures }
