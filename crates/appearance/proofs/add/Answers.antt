use mathlib.Core.Path.{sym}
use native.Mathlib.Omega.{arith}
use Rattle.appearance.proofs.Holding.{holding_full, holding_seen, holding_new}
use Rattle.appearance.proofs.add.Goals as goal

pub returns-then-n-eq16384 : goal.returns-then-n-eq16384
returns-then-n-eq16384 c = record { gains = holding_full _ _ _ _ c.if-n-eq16384.true; index = (c.requires, omega arith, omega arith) }

pub returns-then-is_some : goal.returns-then-is_some
returns-then-is_some c = record { gains = holding_seen _ _ _ _ _ c.find.ensures (sym c.if-is_some.ensures); index = (c.requires, omega arith, omega arith) }

pub returns : goal.returns
returns c = record { gains = holding_new _ _ _ _ _ c.find.ensures (sym c.if-is_some.ensures) _ _ c.enter.ensures.0 c.enter.ensures.1; index = (c.enter.ensures.1, omega arith, omega arith) }
