use native.Mathlib.Omega.{arith}
use Rattle.model.proofs.Laws.{drawn_still}
use borrow.Author.Rules.{rules}
use Rattle.model.proofs.send_model.Goals as goal

pub invariant_of-d : goal.invariant_of-d
invariant_of-d c = let s = c.scale_positions in let a = c.args in record { drawn = drawn_still a.positions.now s.new.positions a.triangles.now (omega (arith, s.auto.positions)) c.requires.0 }
