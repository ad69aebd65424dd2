use borrow.Author.Tests.{eq-eqb, ne_eqb}
use Rattle.stream.proofs.requests.is_party.Goals as goal

pub returns-then-r-eq7 : goal.returns-then-r-eq7
returns-then-r-eq7 c = rw (eq-eqb _ _ c.if-r-eq7.true)

pub returns : goal.returns
returns c = rw (ne_eqb _ _ c.if-r-eq7.false)
