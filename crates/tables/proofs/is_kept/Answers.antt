use Rattle.tables.specs.Table.{keeps}
use borrow.Author.Rules.{rules}
use Rattle.tables.proofs.is_kept.Goals as goal

pub enum_told-1 : goal.enum_told-1
enum_told-1 c = search rules

pub returns-in-First : goal.returns-in-First
unfolding keeps
returns-in-First c = simp c.in-First.is

pub returns-in-Last : goal.returns-in-Last
unfolding keeps
returns-in-Last c = simp c.in-Last.is
