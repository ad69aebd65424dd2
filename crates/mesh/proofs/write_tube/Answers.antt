use native.Mathlib.Omega.{arith}
use Rattle.protein.specs.Places.{place_of}
use Rattle.mesh.proofs.Laws.{written_is}
use Rattle.mesh.proofs.write_tube.Goals as goal

pub overflow_mul-k : goal.overflow_mul-k
overflow_mul-k c = omega (arith, c.requires.alphas_bound.2.boxes, c.well_formed)

pub put_bounds-requires : goal.put_bounds-requires
put_bounds-requires c = omega (arith, c.requires.alphas_bound.2.boxes)

pub overflow_mul-t : goal.overflow_mul-t
overflow_mul-t c = omega (arith, c.requires.alphas_bound.1, c.requires.alphas_bound.0)

pub tube_triangles-requires : goal.tube_triangles-requires
tube_triangles-requires c =
    record { n_in_bounds = omega (arith, c.requires.alphas_bound.2.triangles); le_n = (c.requires.in_bounds.0, omega (arith, c.requires.alphas_bound.0)) }

pub overflow_mul-k-2 : goal.overflow_mul-k-2
overflow_mul-k-2 c = omega (arith, c.requires.alphas_bound.2.tubes, c.well_formed)

pub overflow_cast-kind : goal.overflow_cast-kind
overflow_cast-kind c = omega (arith, c.requires.whole.3)

pub put_five-requires : goal.put_five-requires
put_five-requires c = omega (arith, c.requires.alphas_bound.2.tubes)

pub returns : goal.returns
returns c =
    let a = c.args in
    written_is (place_of a.b.now a.h) _ _ _ _ _ _ _ _ _ c.kind_of.result c.tube_vertices-bounds.result c.requires.in_bounds.0 c.load_course.ensures c.kind_of.ensures c.put_bounds.ensures c.tube_vertices-bounds.ensures.0 c.tube_triangles.ensures c.put_five.ensures
