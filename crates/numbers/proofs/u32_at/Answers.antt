use Rattle.numbers.specs.Bytes.{u32_at}
use borrow.Author.Rules.{rules}
use Rattle.numbers.proofs.u32_at.Goals as goal

pub returns : goal.returns
unfolding u32_at
returns c = search rules
