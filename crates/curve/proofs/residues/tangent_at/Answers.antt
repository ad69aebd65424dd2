use Rattle.curve.specs.Residues.{tangent_at}
use Rattle.curve.proofs.residues.tangent_at.Goals as goal

pub returns : goal.returns
unfolding tangent_at
returns c = rw (c.tangent_of.ensures, c.get_vec-2.ensures, c.get_vec.ensures, c.after.ensures.0, c.saturating_sub.ensures)
