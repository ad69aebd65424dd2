use native.Mathlib.Omega.{arith}
use Rattle.scratch.proofs.Laws.{both_one, both_two}
use Rattle.segments.proofs.clear_tables.Goals as goal

pub returns-then-not-full : goal.returns-then-not-full
returns-then-not-full c = let pre = c.requires in both_one _ _ _ _ _ _ _ _ (omega (arith, pre.2, pre.3)) c.if-not-full.true c.clear.ensures

pub returns : goal.returns
returns c = let pre = c.requires in both_two _ _ _ _ _ _ _ _ _ (omega (arith, pre.2, pre.3)) c.clear.ensures c.clear-2.ensures
