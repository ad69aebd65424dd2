use Rattle.shares.proofs.Tests.{leaves_past, leaves_room}
use Rattle.shares.proofs.is_leaving.Goals as goal

pub returns-then-n-s : goal.returns-then-n-s
returns-then-n-s c = let a = c.args in leaves_past a.n a.s c.if-n-s.true

pub returns : goal.returns
returns c = let a = c.args in leaves_room a.n a.s c.if-n-s.false
