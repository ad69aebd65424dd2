use native.Mathlib.Omega.{arith}
use Rattle.protein.proofs.chain.Goals as goal

pub returns : goal.returns
returns c = (cc, omega arith)
