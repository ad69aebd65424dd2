use Prim.Native.Nat.{◌+◌, ◌*◌}
use mathlib.Core.Path.{sym}
use native.Mathlib.Omega.{arith}
use borrow.Author.Rules.{rules}
use Rattle.consistency.proofs.Laws.{kind_out, size_under, size_over, vertex_off, by_triangle}
use Rattle.consistency.proofs.record_fits.Goals as goal

pub returns-then-tubes-at-gt2 : goal.returns-then-tubes-at-gt2
returns-then-tubes-at-gt2 c = let a = c.args in sym (kind_out a.tubes.now a.vertex a.triangle a.i c.if-tubes-at-gt2.true)

pub returns-then-tubes-at-lt2 : goal.returns-then-tubes-at-lt2
returns-then-tubes-at-lt2 c = let a = c.args in sym (size_under a.tubes.now a.vertex a.triangle a.i c.if-tubes-at-gt2.false c.if-tubes-at-lt2.true)

pub returns-then-tubes-at-gt16384 : goal.returns-then-tubes-at-gt16384
returns-then-tubes-at-gt16384 c =
    let a = c.args in
    sym (size_over a.tubes.now a.vertex a.triangle a.i c.if-tubes-at-gt2.false c.if-tubes-at-lt2.false c.if-tubes-at-gt16384.true)

pub overflow_cast-tubes : goal.overflow_cast-tubes
overflow_cast-tubes c = omega (arith, c.type_inv.tubes (5 * c.args.i + 3))

pub returns-then-tubes-at : goal.returns-then-tubes-at
returns-then-tubes-at c =
    let a = c.args in
    sym (vertex_off a.tubes.now a.vertex a.triangle a.i c.if-tubes-at-gt2.false c.if-tubes-at-lt2.false c.if-tubes-at-gt16384.false c.if-tubes-at.true)

pub overflow_cast-result : goal.overflow_cast-result
overflow_cast-result c = omega (arith, c.type_inv.tubes (5 * c.args.i + 4))

pub returns : goal.returns
returns c =
    let a = c.args in
    sym (by_triangle a.tubes.now a.vertex a.triangle a.i c.if-tubes-at-gt2.false c.if-tubes-at-lt2.false c.if-tubes-at-gt16384.false c.if-tubes-at.false)
