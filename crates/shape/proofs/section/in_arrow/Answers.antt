use Rattle.shape.specs.Ring.{in_arrow}
use borrow.Author.Rules.{rules}
use Rattle.shape.proofs.section.in_arrow.Goals as goal

pub enum_told-1 : goal.enum_told-1
enum_told-1 c = search rules

pub returns-in-Coil : goal.returns-in-Coil
unfolding in_arrow
returns-in-Coil c = rw c.in-Coil.is

pub returns-in-Helix : goal.returns-in-Helix
unfolding in_arrow
returns-in-Helix c = rw c.in-Helix.is

pub returns-in-Sheet : goal.returns-in-Sheet
unfolding in_arrow
returns-in-Sheet c = rw c.in-Sheet.is
