use Rattle.appearance.proofs.Holding.{empty_index}
use Rattle.pdb_wanted.proofs.forget.Goals as goal

pub returns : goal.returns
returns c = λ k e. empty_index k e
