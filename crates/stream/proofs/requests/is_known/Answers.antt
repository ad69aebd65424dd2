use mathlib.Core.Path.{sym, ◌∙◌}
use borrow.Author.Tests.{eq-eqb, ne_eqb}
use borrow.Author.Rules.{rules}
use Rattle.stream.proofs.requests.is_known.Goals as goal

pub returns-then-r-eq1 : goal.returns-then-r-eq1
returns-then-r-eq1 c = rw (eq-eqb _ _ c.if-r-eq1.true)

pub returns-then-r-eq2 : goal.returns-then-r-eq2
returns-then-r-eq2 c = rw (ne_eqb _ _ c.if-r-eq1.false, eq-eqb _ _ c.if-r-eq2.true)

pub returns-then-is_party : goal.returns-then-is_party
returns-then-is_party c = rw (ne_eqb _ _ c.if-r-eq1.false, ne_eqb _ _ c.if-r-eq2.false, sym c.is_party.ensures ∙ c.if-is_party.true)

pub returns-then-r-eq3 : goal.returns-then-r-eq3
returns-then-r-eq3 c = rw (ne_eqb _ _ c.if-r-eq1.false, ne_eqb _ _ c.if-r-eq2.false, sym c.is_party.ensures ∙ c.if-is_party.false, eq-eqb _ _ c.if-r-eq3.true)

pub returns : goal.returns
returns c = rw (ne_eqb _ _ c.if-r-eq1.false, ne_eqb _ _ c.if-r-eq2.false, sym c.is_party.ensures ∙ c.if-is_party.false, ne_eqb _ _ c.if-r-eq3.false)
