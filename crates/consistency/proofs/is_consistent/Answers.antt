use native.Mathlib.Omega.{arith}
use lib.ListN.{length}
use mathlib.Core.Path.{sym, ◌∙◌}
use Rattle.buffers.specs.Outs.{sizes}
use Rattle.consistency.proofs.Laws.{tight_lost, limit_lost, by_tubes, looked_at}
use borrow.Author.Rules.{rules}
use Rattle.consistency.proofs.is_consistent.Goals as goal

pub returns-then-is_tight : goal.returns-then-is_tight
returns-then-is_tight c =
    let a = c.args in
    let s = sizes a.positions a.normals a.tags (length a.triangles.now) (length a.tubes.now) a.boxes in
    sym (tight_lost 8 8 s a.tubes.now a.triangles.now a.c (sym c.is_tight.ensures ∙ c.if-is_tight.true))

pub returns-then-c-gt1048576 : goal.returns-then-c-gt1048576
returns-then-c-gt1048576 c =
    let a = c.args in
    let s = sizes a.positions a.normals a.tags (length a.triangles.now) (length a.tubes.now) a.boxes in
    sym (limit_lost 8 8 s a.tubes.now a.triangles.now a.c (sym c.is_tight.ensures ∙ c.if-is_tight.false) (omega (arith, c.if-c-gt1048576.true)))

pub tubes_fit-requires : goal.tubes_fit-requires
tubes_fit-requires c =
    let a = c.args in
    let s = sizes a.positions a.normals a.tags (length a.triangles.now) (length a.tubes.now) a.boxes in
    let r = looked_at a.c s (sym c.is_tight.ensures ∙ c.if-is_tight.false) in
    (r.0, r.1, omega (arith, c.if-c-gt1048576.false))

pub returns : goal.returns
returns c =
    let a = c.args in
    let s = sizes a.positions a.normals a.tags (length a.triangles.now) (length a.tubes.now) a.boxes in
    c.tubes_fit.ensures ∙ sym (by_tubes 8 8 s a.tubes.now a.triangles.now a.c (sym c.is_tight.ensures ∙ c.if-is_tight.false) (omega (arith, c.if-c-gt1048576.false)))
