use native.Mathlib.Omega.{arith}
use borrow.Author.Tests.{eq-eqb, ne_eqb}
use Rattle.edges.proofs.Theorems.{vertex_count_lem, triangle_count_lem}
use Rattle.walk.specs.Walk.{grown_by}
use Rattle.walk.proofs.add_tube.Goals as goal

pub overflow_add-vertices : goal.overflow_add-vertices
overflow_add-vertices c = omega (arith, c.vertex_count.ensures, vertex_count_lem c.args.n c.requires.0, c.requires.2.vertices)

pub overflow_add-triangles : goal.overflow_add-triangles
overflow_add-triangles c =
    let pre = c.requires in
    omega (arith, c.triangle_count.ensures, triangle_count_lem c.args.n pre.0, pre.2.vertices, pre.2.twice)

pub returns-then-t : goal.returns-then-t
unfolding grown_by
returns-then-t c = rw (eq-eqb _ _ c.if-t.true, ← c.vertex_count.ensures, ← c.triangle_count.ensures)

pub returns : goal.returns
unfolding grown_by
returns c = rw (ne_eqb _ _ c.if-t.false, ← c.vertex_count.ensures, ← c.triangle_count.ensures)
