use native.Mathlib.Omega.{arith}
use mathlib.Core.Path.{refl}
use Rattle.stream.proofs.Laws.{not_so}
use Rattle.stream.proofs.requests.is_within.Goals as goal

pub returns-then-own-lent : goal.returns-then-own-lent
returns-then-own-lent c = not_so (λ w. omega (arith, c.if-own-lent.true, w.positions))

pub returns-then-own-lent-2 : goal.returns-then-own-lent-2
returns-then-own-lent-2 c = not_so (λ w. omega (arith, c.if-own-lent-2.true, w.normals))

pub returns-then-own-lent-3 : goal.returns-then-own-lent-3
returns-then-own-lent-3 c = not_so (λ w. omega (arith, c.if-own-lent-3.true, w.tags))

pub returns-then-own-lent-4 : goal.returns-then-own-lent-4
returns-then-own-lent-4 c = not_so (λ w. omega (arith, c.if-own-lent-4.true, w.triangles))

pub returns-then-own-lent-5 : goal.returns-then-own-lent-5
returns-then-own-lent-5 c = not_so (λ w. omega (arith, c.if-own-lent-5.true, w.tubes))

pub returns-then-own-lent-6 : goal.returns-then-own-lent-6
returns-then-own-lent-6 c = not_so (λ w. omega (arith, c.if-own-lent-6.true, w.boxes))

pub returns-then-own-lent-7 : goal.returns-then-own-lent-7
returns-then-own-lent-7 c = not_so (λ w. omega (arith, c.if-own-lent-7.true, w.words))

pub returns-then-own-lent-8 : goal.returns-then-own-lent-8
returns-then-own-lent-8 c = not_so (λ w. omega (arith, c.if-own-lent-8.true, w.floats))

pub returns : goal.returns
returns c = (λ e. record { positions = omega (arith, c.if-own-lent.false); normals = omega (arith, c.if-own-lent-2.false); tags = omega (arith, c.if-own-lent-3.false); triangles = omega (arith, c.if-own-lent-4.false); tubes = omega (arith, c.if-own-lent-5.false); boxes = omega (arith, c.if-own-lent-6.false); words = omega (arith, c.if-own-lent-7.false); floats = omega (arith, c.if-own-lent-8.false) }, λ w. refl)
