use mathlib.Core.Path.{◌≡◌, refl, ◌∙◌, sym}
use mathlib.Core.Bool.{true}
use Prim.Native.Nat.{◌*◌, ◌/◌}
use lib.ListN.{length, take, length-take}
use native.Mathlib.Omega.{arith}
use borrow.Author.Tests.{not-true, not-false}
use Rattle.buffers.specs.Outs.{outs}
use Rattle.consistency.specs.Consistent.{consistent}
use Rattle.stl_writer.proofs.Answers.{by_answer, at_17, at_18, at_file, few, corners_there, drawn, file_made}
use borrow.Author.Rules.{rules}
use Rattle.stl_writer.proofs.write_stl.Goals as goal

pub returns-then-not-is_consistent : goal.returns-then-not-is_consistent
returns-then-not-is_consistent c =
    let a = c.args in
    let o = outs a.positions.now a.normals.now a.tags.now a.triangles.now a.tubes.now a.boxes.now in
    by_answer 8 8 o a.c a.out.now _ _ (at_17 8 8 o a.c _ (sym c.is_consistent.ensures ∙ c.if-not-is_consistent.true)) refl

pub overflow_mul-size : goal.overflow_mul-size
overflow_mul-size c =
    let a = c.args in
    let o = outs a.positions.now a.normals.now a.tags.now a.triangles.now a.tubes.now a.boxes.now in
    let y : consistent 8 8 o a.c ≡ true = sym c.is_consistent.ensures ∙ c.if-not-is_consistent.false in
    omega (arith, few o a.c y)

pub overflow_add-size : goal.overflow_add-size
overflow_add-size c =
    let a = c.args in
    let o = outs a.positions.now a.normals.now a.tags.now a.triangles.now a.tubes.now a.boxes.now in
    let y : consistent 8 8 o a.c ≡ true = sym c.is_consistent.ensures ∙ c.if-not-is_consistent.false in
    omega (arith, few o a.c y)

pub returns-then-out-size : goal.returns-then-out-size
returns-then-out-size c =
    let a = c.args in
    let o = outs a.positions.now a.normals.now a.tags.now a.triangles.now a.tubes.now a.boxes.now in
    let y : consistent 8 8 o a.c ≡ true = sym c.is_consistent.ensures ∙ c.if-not-is_consistent.false in
    by_answer 8 8 o a.c a.out.now _ _ (at_18 8 8 o a.c _ y c.if-out-size.true) refl

pub overflow_cast-t : goal.overflow_cast-t
overflow_cast-t c =
    let a = c.args in
    let o = outs a.positions.now a.normals.now a.tags.now a.triangles.now a.tubes.now a.boxes.now in
    let y : consistent 8 8 o a.c ≡ true = sym c.is_consistent.ensures ∙ c.if-not-is_consistent.false in
    omega (arith, few o a.c y)

pub slice_bounds-mesh-end : goal.slice_bounds-mesh-end
slice_bounds-mesh-end c =
    let a = c.args in
    let o = outs a.positions.now a.normals.now a.tags.now a.triangles.now a.tubes.now a.boxes.now in
    let y : consistent 8 8 o a.c ≡ true = sym c.is_consistent.ensures ∙ c.if-not-is_consistent.false in
    omega (arith, length-take (3 * a.c.triangles) a.triangles.now, corners_there o a.c y)

pub invariant_of-mesh : goal.invariant_of-mesh
invariant_of-mesh c =
    let a = c.args in
    let o = outs a.positions.now a.normals.now a.tags.now a.triangles.now a.tubes.now a.boxes.now in
    let y : consistent 8 8 o a.c ≡ true = sym c.is_consistent.ensures ∙ c.if-not-is_consistent.false in
    record { drawn = drawn o a.c y }

pub put_facets-requires : goal.put_facets-requires
put_facets-requires c =
    let a = c.args in
    let o = outs a.positions.now a.normals.now a.tags.now a.triangles.now a.tubes.now a.boxes.now in
    let y : consistent 8 8 o a.c ≡ true = sym c.is_consistent.ensures ∙ c.if-not-is_consistent.false in
    omega (arith, length-take (3 * a.c.triangles) a.triangles.now, corners_there o a.c y, c.put_head.auto.out, c.if-out-size.false)

pub returns : goal.returns
returns c =
    let a = c.args in
    let o = outs a.positions.now a.normals.now a.tags.now a.triangles.now a.tubes.now a.boxes.now in
    let y : consistent 8 8 o a.c ≡ true = sym c.is_consistent.ensures ∙ c.if-not-is_consistent.false in
    let n : length (take (3 * a.c.triangles) a.triangles.now) / 3 ≡ a.c.triangles = omega (arith, length-take (3 * a.c.triangles) a.triangles.now, corners_there o a.c y) in
    by_answer 8 8 o a.c a.out.now _ _ (at_file 8 8 o a.c _ y c.if-out-size.false) (file_made o a.c _ _ _ _ n c.put_head.ensures c.put_facets.ensures)
