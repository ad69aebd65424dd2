use Rattle.curve.specs.Residues.{raw_at}
use Rattle.curve.proofs.residues.raw_of.Goals as goal

pub returns : goal.returns
unfolding raw_at
returns c = cc
