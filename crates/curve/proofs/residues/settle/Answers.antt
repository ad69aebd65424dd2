use Rattle.curve.specs.Residues.{settled}
use Rattle.curve.proofs.residues.settle.Goals as goal

pub returns-in-Coil : goal.returns-in-Coil
unfolding settled
returns-in-Coil c = rw c.in-Coil.is c.smooth_guides.ensures

pub returns-in-Helix : goal.returns-in-Helix
unfolding settled
returns-in-Helix c = rw c.in-Helix.is c.smooth_guides-in-Helix.ensures

pub returns-in-Sheet : goal.returns-in-Sheet
returns-in-Sheet c = rw c.in-Sheet.is c.average_guides.ensures
