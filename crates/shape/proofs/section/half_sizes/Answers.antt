use Rattle.shape.specs.Ring.{half_sizes}
use borrow.Author.Rules.{rules}
use Rattle.shape.proofs.section.half_sizes.Goals as goal

pub enum_told-1 : goal.enum_told-1
enum_told-1 c = search rules

pub returns-in-Coil : goal.returns-in-Coil
unfolding half_sizes
returns-in-Coil c = rw c.in-Coil.is

pub returns-in-Helix : goal.returns-in-Helix
unfolding half_sizes
returns-in-Helix c = rw c.in-Helix.is

pub returns-in-Sheet : goal.returns-in-Sheet
unfolding half_sizes
returns-in-Sheet c = rw c.in-Sheet.is
