use Prim.Native.Nat.{◌-◌, ◌+◌, ◌*◌}
use mathlib.Core.Path.{sym, ◌∙◌}
use native.Mathlib.Omega.{arith}
use borrow.Author.Rules.{rules}
use borrow.Author.Tests.{not-true, not-false, ne_eqb, eq-eqb}
use lib.ListN.{drop}
use Rattle.lists.proofs.Any.{take_le}
use Rattle.edges.proofs.Theorems.{vertex_count_lem, triangle_count_lem}
use Rattle.consistency.specs.Consistent.{residues_at}
use Rattle.consistency.proofs.Laws.{record_means}
use Rattle.consistency.proofs.Reached.{Reached, reached_none, reached_more, reached_over, record_lost, corners_lost, end_lost, past_lost}
use Rattle.consistency.proofs.tubes_fit.Goals as goal

pub loop-i-init : goal.loop-i-init
loop-i-init c = let a = c.args in reached_none a.tubes.now a.triangles.now a.c

pub returns-then-not-record_fits : goal.returns-then-not-record_fits
returns-then-not-record_fits c =
    let a = c.args in
    let l = c.loop-i in
    sym (record_lost a.tubes.now a.triangles.now a.c l.vertex l.triangle l.i l.invariant c.loop-i-test.true (sym c.record_fits.ensures ∙ c.if-not-record_fits.true))

pub overflow_cast-n : goal.overflow_cast-n
overflow_cast-n c = omega (arith, c.type_inv.tubes (5 * c.loop-i.i + 2))

pub triangle_count-requires : goal.triangle_count-requires
triangle_count-requires c =
    let a = c.args in
    let l = c.loop-i in
    let z = record_means a.tubes.now l.vertex l.triangle l.i (sym c.record_fits.ensures ∙ c.if-not-record_fits.false) in
    omega (arith, z.2)

pub overflow_add-end : goal.overflow_add-end
overflow_add-end c =
    let a = c.args in
    let l = c.loop-i in
    let z = record_means a.tubes.now l.vertex l.triangle l.i (sym c.record_fits.ensures ∙ c.if-not-record_fits.false) in
    omega (arith, z.1, z.2, c.triangle_count.ensures, triangle_count_lem (residues_at a.tubes.now l.i) z.1, l.invariant.within, c.requires.1)

pub returns-then-most-end : goal.returns-then-most-end
returns-then-most-end c =
    let a = c.args in
    let l = c.loop-i in
    sym (end_lost a.tubes.now a.triangles.now a.c l.vertex l.triangle l.i l.invariant (l.triangle + c.triangle_count.result) (omega (arith, c.triangle_count.ensures)) c.loop-i-test.true c.if-most-end.true)

pub vertex_count-span-requires : goal.vertex_count-span-requires
vertex_count-span-requires c =
    let a = c.args in
    let l = c.loop-i in
    let z = record_means a.tubes.now l.vertex l.triangle l.i (sym c.record_fits.ensures ∙ c.if-not-record_fits.false) in
    omega (arith, z.2)

pub overflow_add-past : goal.overflow_add-past
overflow_add-past c =
    let a = c.args in
    let l = c.loop-i in
    let z = record_means a.tubes.now l.vertex l.triangle l.i (sym c.record_fits.ensures ∙ c.if-not-record_fits.false) in
    omega (arith, z.1, z.2, c.vertex_count-span.ensures, vertex_count_lem (residues_at a.tubes.now l.i) z.1, l.invariant.inside, c.requires.2)

pub returns-then-all-past : goal.returns-then-all-past
returns-then-all-past c =
    let a = c.args in
    let l = c.loop-i in
    sym (past_lost a.tubes.now a.triangles.now a.c l.vertex l.triangle l.i l.invariant (l.vertex + c.vertex_count-span.result) (omega (arith, c.vertex_count-span.ensures)) c.loop-i-test.true c.if-all-past.true)

pub corners_in-requires : goal.corners_in-requires
corners_in-requires c =
    let a = c.args in
    let l = c.loop-i in
    let z = record_means a.tubes.now l.vertex l.triangle l.i (sym c.record_fits.ensures ∙ c.if-not-record_fits.false) in
    (omega (arith, c.if-all-past.false, c.requires.2), omega (arith, take_le (3 * (l.triangle + c.triangle_count.result) - 3 * l.triangle) (drop (3 * l.triangle) a.triangles.now), z.1, z.2, c.triangle_count.ensures, triangle_count_lem (residues_at a.tubes.now l.i) z.1))

pub returns-then-not-corners_in : goal.returns-then-not-corners_in
returns-then-not-corners_in c =
    let a = c.args in
    let l = c.loop-i in
    let v = c.vertex_count-span in
    let t = c.triangle_count in
    let fits = sym c.record_fits.ensures ∙ c.if-not-record_fits.false in
    sym (corners_lost a.tubes.now a.triangles.now a.c l.vertex l.triangle l.i l.invariant (l.vertex + v.result) (l.triangle + t.result) (omega (arith, v.ensures)) (omega (arith, t.ensures)) fits (sym c.corners_in.ensures ∙ c.if-not-corners_in.true) c.loop-i-test.true)

pub loop-i-preserved : goal.loop-i-preserved
loop-i-preserved c =
    let a = c.args in
    let l = c.loop-i in
    let v = c.vertex_count-span in
    let t = c.triangle_count in
    let fits = sym c.record_fits.ensures ∙ c.if-not-record_fits.false in
    let own = sym c.corners_in.ensures ∙ c.if-not-corners_in.false in
    reached_more a.tubes.now a.triangles.now a.c l.vertex l.triangle l.i l.invariant (l.vertex + v.result) (l.triangle + t.result) (omega (arith, v.ensures)) (omega (arith, t.ensures)) fits own c.loop-i-test.true c.if-most-end.false c.if-all-past.false

pub returns-then-vertex-c : goal.returns-then-vertex-c
returns-then-vertex-c c =
    let a = c.args in
    let l = c.loop-i in
    sym (reached_over a.tubes.now a.triangles.now a.c l.vertex l.triangle l.i l.invariant c.loop-i-test.false ∙ rw (ne_eqb l.vertex a.c.vertices c.if-vertex-c.true))

pub returns : goal.returns
returns c =
    let a = c.args in
    let l = c.loop-i in
    sym (reached_over a.tubes.now a.triangles.now a.c l.vertex l.triangle l.i l.invariant c.loop-i-test.false ∙ rw (eq-eqb l.vertex a.c.vertices c.if-vertex-c.false))
