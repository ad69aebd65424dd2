use Prim.Native.Nat.{◌+◌, ◌*◌}
use mathlib.Core.Path.{sym, ap, ◌∙◌}
use lib.ListN.{length}
use native.Mathlib.Omega.{arith}
use Rattle.tube_call.proofs.Parts.{listed, part_full, part_empty}
use Rattle.tube_call.proofs.locate.Goals as goal

pub returns-then-size-eq0 : goal.returns-then-size-eq0
returns-then-size-eq0 c = part_empty _ _ _ (sym c.if-size-eq0.true ∙ ap length c.tube-size.ensures.part)

pub overflow_mul-start : goal.overflow_mul-start
overflow_mul-start c =
    let args = c.args in
    omega (arith, listed args.records.now args.triangles.now args.k (λ z. c.if-size-eq0.false (ap length c.tube-size.ensures.part ∙ z)))

pub overflow_add-start : goal.overflow_add-start
overflow_add-start c =
    let args = c.args in
    omega (arith, listed args.records.now args.triangles.now args.k (λ z. c.if-size-eq0.false (ap length c.tube-size.ensures.part ∙ z)))

pub offset_bounds-records-k : goal.offset_bounds-records-k
offset_bounds-records-k c =
    let args = c.args in
    omega (arith, listed args.records.now args.triangles.now args.k (λ z. c.if-size-eq0.false (ap length c.tube-size.ensures.part ∙ z)))

pub bounds-records-k : goal.bounds-records-k
bounds-records-k c =
    let args = c.args in
    listed args.records.now args.triangles.now args.k (λ z. c.if-size-eq0.false (ap length c.tube-size.ensures.part ∙ z))

pub overflow_cast-start : goal.overflow_cast-start
overflow_cast-start c = omega (arith, c.type_inv.records (5 * c.args.k + 4))

pub overflow_mul-start-2 : goal.overflow_mul-start-2
overflow_mul-start-2 c = omega (arith, c.type_inv.records (5 * c.args.k + 4))

pub returns : goal.returns
returns c =
    let args = c.args in
    part_full args.records.now args.triangles.now args.k _ (ap length c.tube-size.ensures.part) c.if-size-eq0.false
