use borrow.Author.Tests.{eq-eqb, ne_eqb}
use Rattle.curve.specs.Residues.{oxygen_at}
use Rattle.curve.proofs.residues.oxygen_at.Goals as goal

pub returns-then-flags-i-eq0 : goal.returns-then-flags-i-eq0
unfolding oxygen_at
returns-then-flags-i-eq0 c = simp (eq-eqb _ _ c.if-flags-i-eq0.true)

pub returns : goal.returns
unfolding oxygen_at
returns c = simp (ne_eqb _ _ c.if-flags-i-eq0.false, c.get_vec-v.ensures)
