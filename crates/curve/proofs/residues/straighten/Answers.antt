use Rattle.curve.specs.Residues.{points_of}
use Rattle.curve.proofs.residues.straighten.Goals as goal

pub returns-in-Coil : goal.returns-in-Coil
unfolding points_of
returns-in-Coil c = rw c.in-Coil.is

pub returns-in-Helix : goal.returns-in-Helix
unfolding points_of
returns-in-Helix c = rw c.in-Helix.is

pub returns-in-Sheet : goal.returns-in-Sheet
unfolding points_of
returns-in-Sheet c = rw c.in-Sheet.is c.smooth_positions.ensures
