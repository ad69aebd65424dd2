use Rattle.tables.specs.Wants.{wants}
use Rattle.tables.proofs.is_wanted.Goals as goal

pub returns-then-has_role : goal.returns-then-has_role
unfolding wants
returns-then-has_role c = simp (c.in-SegmentAlpha.is, ← c.has_role-in-SegmentAlpha.ensures, c.if-has_role.true, ← c.serial.ensures, ← c.is_inside.ensures)

pub returns-then-has_role-2 : goal.returns-then-has_role-2
unfolding wants
returns-then-has_role-2 c = simp (c.in-SegmentOxygen.is, ← c.has_role-in-SegmentOxygen.ensures, c.if-has_role-2.true, ← c.serial-then-has_role-2.ensures, ← c.is_inside-then-has_role-2.ensures)

pub returns-in-Chain : goal.returns-in-Chain
unfolding wants
returns-in-Chain c = simp (c.in-Chain.is, ← c.chain.ensures.0)

pub returns-in-Alpha : goal.returns-in-Alpha
unfolding wants
returns-in-Alpha c = simp (c.in-Alpha.is, ← c.has_role.ensures)

pub returns-else-has_role : goal.returns-else-has_role
unfolding wants
returns-else-has_role c = simp (c.in-SegmentAlpha.is, ← c.has_role-in-SegmentAlpha.ensures, c.if-has_role.false)

pub returns-else-has_role-2 : goal.returns-else-has_role-2
unfolding wants
returns-else-has_role-2 c = simp (c.in-SegmentOxygen.is, ← c.has_role-in-SegmentOxygen.ensures, c.if-has_role-2.false)
