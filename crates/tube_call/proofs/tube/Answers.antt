use Rattle.edges.proofs.Theorems.{triangle_count_lem}
use lib.ListN.{get_or}
use Prim.Native.Nat.{◌+◌, ◌*◌}
use native.Mathlib.Omega.{arith}
use Rattle.tube_call.proofs.Laws.{part_none, part_few, part_many, part_out, part_in}
use Rattle.tube_call.proofs.tube.Goals as goal

pub returns-then-have-k : goal.returns-then-have-k
returns-then-have-k c =
    let args = c.args in
    let e = part_none args.records.now args.triangles.now args.k c.if-have-k.true in
    record { part = cc }

pub overflow_cast-n : goal.overflow_cast-n
overflow_cast-n c = omega (arith, c.type_inv.records (5 * c.args.k + 2))

pub overflow_cast-t : goal.overflow_cast-t
overflow_cast-t c = omega (arith, c.type_inv.records (5 * c.args.k + 4))

pub returns-then-n-lt2 : goal.returns-then-n-lt2
returns-then-n-lt2 c =
    let args = c.args in
    let e = part_few args.records.now args.triangles.now args.k c.if-n-lt2.true in
    record { part = cc }

pub returns-then-n-gt16384 : goal.returns-then-n-gt16384
returns-then-n-gt16384 c =
    let args = c.args in
    let e = part_many args.records.now args.triangles.now args.k c.if-n-gt16384.true in
    record { part = cc }

pub overflow_mul-from : goal.overflow_mul-from
overflow_mul-from c = omega (arith, c.type_inv.records (5 * c.args.k + 4))

pub overflow_mul-end : goal.overflow_mul-end
overflow_mul-end c = omega (arith, c.triangle_count.ensures, triangle_count_lem (get_or c.args.records.now (5 * c.args.k + 2) 0) c.if-n-lt2.false, c.if-n-gt16384.false)

pub overflow_add-end : goal.overflow_add-end
overflow_add-end c =
    let args = c.args in
    omega (arith, c.type_inv.records (5 * args.k + 4), c.if-n-gt16384.false, c.triangle_count.ensures, triangle_count_lem (get_or args.records.now (5 * args.k + 2) 0) c.if-n-lt2.false)

pub returns-then-triangles-end : goal.returns-then-triangles-end
returns-then-triangles-end c =
    let args = c.args in
    let e = part_out args.records.now args.triangles.now args.k (omega (arith, c.if-triangles-end.true, c.triangle_count.ensures)) in
    record { part = cc }

pub returns : goal.returns
returns c =
    let args = c.args in
    record { part = rw c.triangle_count.ensures (part_in args.records.now args.triangles.now args.k c.if-have-k.false c.if-n-lt2.false c.if-n-gt16384.false (omega (arith, c.if-triangles-end.false, c.triangle_count.ensures))) }
