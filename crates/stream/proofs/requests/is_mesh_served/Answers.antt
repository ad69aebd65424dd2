use native.Mathlib.Omega.{arith}
use mathlib.Core.Path.{refl}
use borrow.Author.Tests.{not-true, not-false}
use borrow.Author.Rules.{rules}
use Rattle.lists.proofs.Bools.{clash}
use Rattle.stream.proofs.Laws.{not_so}
use Rattle.stream.proofs.requests.is_mesh_served.Goals as goal

pub returns-then-not-is_within : goal.returns-then-not-is_within
returns-then-not-is_within c =
    let within = rw c.stl_lent.ensures at c.is_within.ensures in
    not_so (λ w. clash (within.1 w.within) c.if-not-is_within.true)

pub returns-then-room-r : goal.returns-then-room-r
returns-then-room-r c = not_so (λ w. omega (arith, c.if-room-r.true, w.fits))

pub returns-then-r-mesh_places : goal.returns-then-r-mesh_places
returns-then-r-mesh_places c = not_so (λ w. c.if-r-mesh_places.true (omega (arith, w.sized, c.mesh_places.ensures.0)))

pub returns : goal.returns
returns c =
    let within = rw c.stl_lent.ensures at c.is_within.ensures in
    (λ e. record { within = within.0 c.if-not-is_within.false; fits = omega (arith, c.if-room-r.false); sized = omega (arith, c.if-r-mesh_places.false, c.mesh_places.ensures.0) }, λ w. refl)
