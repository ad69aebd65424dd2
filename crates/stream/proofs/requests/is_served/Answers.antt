use native.Mathlib.Omega.{arith}
use mathlib.Core.Path.{refl, sym, ◌∙◌}
use borrow.Author.Tests.{not-true, not-false}
use Rattle.stream.proofs.Laws.{not_so}
use borrow.Author.Rules.{rules}
use Rattle.lists.proofs.Bools.{clash}
use Rattle.stream.proofs.requests.is_served.Goals as goal

pub returns-then-not-is_within : goal.returns-then-not-is_within
returns-then-not-is_within c = not_so (λ w. clash (c.is_within.ensures.1 w.within) c.if-not-is_within.true)

pub returns-then-room-r : goal.returns-then-room-r
returns-then-room-r c = not_so (λ w. omega (arith, c.if-room-r.true, w.fits))

pub returns-then-not-is_known : goal.returns-then-not-is_known
returns-then-not-is_known c = not_so (λ w. clash w.knows (sym c.is_known.ensures ∙ c.if-not-is_known.true))

pub returns : goal.returns
returns c = (λ e. record { within = c.is_within.ensures.0 c.if-not-is_within.false; fits = omega (arith, c.if-room-r.false); knows = sym c.is_known.ensures ∙ c.if-not-is_known.false }, λ w. refl)
