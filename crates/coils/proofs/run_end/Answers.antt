use mathlib.Core.Path.{refl, ap}
use lib.ListN.{length, length-take}
use native.Mathlib.Omega.{arith}
use Rattle.protein.specs.Job.{job_of}
use Rattle.coils.specs.Coils.{covered_in}
use Rattle.coils.proofs.Laws.{loose_few, whole_is, pieces_are, whole_below}
use Rattle.coils.proofs.run_end.Goals as goal

pub overflow_add-end : goal.overflow_add-end
overflow_add-end c = omega (arith, c.requires.2, loose_few (job_of c.args.b.now c.args.h) (covered_in c.args.t.now c.args.h.residues), c.requires.0.few_residues)

pub slice_bounds-piece_end-end : goal.slice_bounds-piece_end-end
slice_bounds-piece_end-end c = omega (arith, c.requires.2, loose_few (job_of c.args.b.now c.args.h) (covered_in c.args.t.now c.args.h.residues), c.requires.1.tables.size)

pub slice_bounds-piece_end-end-2 : goal.slice_bounds-piece_end-end-2
slice_bounds-piece_end-end-2 c = simp length-take (omega (arith, c.requires.1.tables.size))

pub piece_end-requires : goal.piece_end-requires
piece_end-requires c =
    let pre = c.requires in
    let args = c.args in
    let w = whole_is (job_of args.b.now args.h) _ _ pre.1 _ pre.2 in record { p_in_bounds = omega (arith, ap length w, pre.2, pre.3); by_index = whole_below (job_of args.b.now args.h) _ _ pre.1 _ pre.2 }

pub returns : goal.returns
returns c =
    let args = c.args in
    let pre = c.requires in
    let w = whole_is (job_of args.b.now args.h) _ _ pre.1 _ pre.2 in
    (c.piece_end.ensures.0, omega (arith, c.piece_end.ensures.1, ap length w, pre.2), pieces_are (job_of args.b.now args.h) _ _ pre.1 args.m args.p c.piece_end.result _ pre.2 refl c.piece_end.ensures.2)
