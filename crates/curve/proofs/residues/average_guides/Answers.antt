use Rattle.curve.specs.Residues.{settled}
use Rattle.curve.proofs.residues.average_guides.Goals as goal

pub returns : goal.returns
unfolding settled
returns c = rw (c.fill.ensures, c.normalised-v.ensures, c.sum.ensures)
