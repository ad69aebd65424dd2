use borrow.Author.Rules.{rules}
use Rattle.job.specs.Check.{bad_kind}
use Rattle.job.proofs.Laws.{found_first}
use Rattle.job.proofs.find_kind.Goals as goal

pub returns : goal.returns
unfolding bad_kind
returns c = found_first _ _ _ _ _ c.find_fault.ensures (λ k p. search rules) (λ k p. search rules)
