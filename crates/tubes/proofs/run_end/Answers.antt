use native.Mathlib.Omega.{arith}
use lib.ListN.{get_or}
use Rattle.tubes.proofs.Left.{run_new}
use Rattle.tubes.proofs.run_end.Goals as goal

pub returns : goal.returns
returns c = let f = c.piece_end.ensures in run_new (λ k. get_or c.args.chains.now k 0) _ _ _ c.requires.on.0 (omega arith) f.0 f.1 f.2
