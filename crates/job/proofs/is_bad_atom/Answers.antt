use borrow.Author.Tests.{lt-ltb, le-ltb}
use Rattle.job.specs.Check.{bad_atom}
use Rattle.job.proofs.is_bad_atom.Goals as goal

pub returns-then-role-gt2 : goal.returns-then-role-gt2
unfolding bad_atom
returns-then-role-gt2 c = simp (← c.role.ensures, lt-ltb _ _ c.if-role-gt2.true)

pub returns-then-is_stray : goal.returns-then-is_stray
unfolding bad_atom
returns-then-is_stray c = simp (← c.role.ensures, le-ltb _ _ c.if-role-gt2.false, ← c.residue.ensures, ← c.is_stray.ensures, c.if-is_stray.true)

pub returns : goal.returns
unfolding bad_atom
returns c = simp (← c.role.ensures, le-ltb _ _ c.if-role-gt2.false, ← c.residue.ensures, ← c.is_stray.ensures, c.if-is_stray.false, ← c.chain.ensures.0, ← c.is_stray-2.ensures)
