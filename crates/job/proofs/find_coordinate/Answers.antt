use borrow.Author.Rules.{rules}
use Rattle.job.proofs.Laws.{found_first}
use Rattle.job.proofs.find_coordinate.Goals as goal

pub returns : goal.returns
returns c = found_first _ _ _ _ _ c.find_fault.ensures (λ k p. search rules) (λ k p. search rules)
