use Prim.Native.Nat.{◌*◌, ◌≤◌, ◌<◌}
use mathlib.Core.Path.{sym, ◌∙◌}
use native.Mathlib.Omega.{arith}
use lib.ListN.{length, get_or, length-take}
use Rattle.protein.specs.Job.{job_of}
use Rattle.protein.specs.Protein.{protein_of}
use Rattle.walk.proofs.Laws.{ready_fits}
use Rattle.walk.proofs.Parts.{alphas_end, oxygens_end, alphas_map, oxygens_map, alphas_atoms, oxygens_atoms, alphas_length, oxygens_length, wrote_as}
use Rattle.lists.proofs.Any.{drop_tail}
use Rattle.walk.proofs.write_one.Goals as goal

pub overflow_cast-from : goal.overflow_cast-from
overflow_cast-from c =
    let args = c.args in
    let pre = c.requires in
    omega (arith, alphas_end (job_of args.b.now args.h) args.source args.alphas.now args.part.now c.requires.in_bounds.1 c.requires.in_bounds.2 (omega (arith, c.requires.in_bounds.0)), c.requires.whole.2)

pub overflow_add-end : goal.overflow_add-end
overflow_add-end c =
    let args = c.args in
    let pre = c.requires in
    omega (arith, alphas_end (job_of args.b.now args.h) args.source args.alphas.now args.part.now c.requires.in_bounds.1 c.requires.in_bounds.2 (omega (arith, c.requires.in_bounds.0)), c.requires.whole.2)

pub offset_bounds-alphas-from : goal.offset_bounds-alphas-from
offset_bounds-alphas-from c =
    let args = c.args in
    let pre = c.requires in
    omega (arith, alphas_end (job_of args.b.now args.h) args.source args.alphas.now args.part.now c.requires.in_bounds.1 c.requires.in_bounds.2 (omega (arith, c.requires.in_bounds.0)), c.requires.whole.2)

pub slice_bounds-write_tube-end : goal.slice_bounds-write_tube-end
slice_bounds-write_tube-end c =
    let args = c.args in
    let p = c.requires.in_bounds in
    alphas_end (job_of args.b.now args.h) args.source args.alphas.now args.part.now p.1 p.2 (omega (arith, p.0))

pub offset_bounds-oxygens-from : goal.offset_bounds-oxygens-from
offset_bounds-oxygens-from c =
    let args = c.args in
    let pre = c.requires in
    omega (arith, alphas_end (job_of args.b.now args.h) args.source args.alphas.now args.part.now c.requires.in_bounds.1 c.requires.in_bounds.2 (omega (arith, c.requires.in_bounds.0)), c.requires.whole.2)

pub slice_bounds-write_tube-end-2 : goal.slice_bounds-write_tube-end-2
slice_bounds-write_tube-end-2 c =
    let args = c.args in
    let p = c.requires.in_bounds in
    oxygens_end (job_of args.b.now args.h) args.source args.oxygens.now args.part.now p.1 p.3 (omega (arith, p.0))

pub slice_bounds-write_tube-end-3 : goal.slice_bounds-write_tube-end-3
slice_bounds-write_tube-end-3 c =
    let args = c.args in
    let pre = c.requires in
    omega (arith, alphas_end (job_of args.b.now args.h) args.source args.alphas.now args.part.now c.requires.in_bounds.1 c.requires.in_bounds.2 (omega (arith, c.requires.in_bounds.0)), c.requires.whole.3)

pub slice_bounds-write_tube-end-4 : goal.slice_bounds-write_tube-end-4
slice_bounds-write_tube-end-4 c =
    let args = c.args in
    let pre = c.requires in
    simp length-take (omega (arith, alphas_end (job_of args.b.now args.h) args.source args.alphas.now args.part.now c.requires.in_bounds.1 c.requires.in_bounds.2 (omega (arith, c.requires.in_bounds.0)), c.requires.whole.3))

pub write_tube-requires : goal.write_tube-requires
write_tube-requires c =
    let args = c.args in
    let pre = c.requires in
    let two = c.requires.in_bounds.0 in
    let a = alphas_length (job_of args.b.now args.h) args.source args.alphas.now args.part.now c.requires.in_bounds.1 c.requires.in_bounds.2 (omega (arith, c.requires.in_bounds.0)) in
    let o = oxygens_length (job_of args.b.now args.h) args.source args.oxygens.now args.part.now c.requires.in_bounds.1 c.requires.in_bounds.3 (omega (arith, c.requires.in_bounds.0)) in
    let e = alphas_end (job_of args.b.now args.h) args.source args.alphas.now args.part.now c.requires.in_bounds.1 c.requires.in_bounds.2 (omega (arith, c.requires.in_bounds.0)) in
    let f : get_or args.part.now 0 0 < 65536 = omega (arith, e, c.requires.whole.2) in
    let g : length args.part.now ≤ 16384 = omega (arith, e, c.requires.whole.2) in
    let r = ready_fits args.t args.kind _ _ _ c.requires.ready in record { whole = (c.requires.whole.0, alphas_atoms (job_of args.b.now args.h) args.source args.alphas.now args.part.now c.requires.in_bounds.1 c.requires.in_bounds.2 (omega (arith, c.requires.in_bounds.0)), oxygens_atoms (job_of args.b.now args.h) args.source args.oxygens.now args.part.now c.requires.in_bounds.1 c.requires.in_bounds.3 (omega (arith, c.requires.in_bounds.0)), c.requires.whole.1, f); in_bounds = (rw a two, rw a g, o ∙ sym a, rw a (simp length-take (omega (arith, e, c.requires.whole.3)))); alphas_bound = (rw a r.0, c.requires.whole.4.twice, rw a r.1) }

pub add_tube-requires : goal.add_tube-requires
add_tube-requires c =
    let args = c.args in
    let pre = c.requires in
    (c.requires.in_bounds.0, omega (arith, alphas_end (job_of args.b.now args.h) args.source args.alphas.now args.part.now c.requires.in_bounds.1 c.requires.in_bounds.2 (omega (arith, c.requires.in_bounds.0)), c.requires.whole.2), c.requires.whole.4)

pub returns : goal.returns
returns c =
    let args = c.args in
    let pre = c.requires in
    let write-tube = c.write_tube in record { floats_unchanged = drop_tail (6 * length args.part.now) (6 * length args.alphas.now) write-tube.new.course args.floats.now (write-tube.auto.course ∙ simp length-take (omega (arith, alphas_end (job_of args.b.now args.h) args.source args.alphas.now args.part.now c.requires.in_bounds.1 c.requires.in_bounds.2 (omega (arith, c.requires.in_bounds.0)), c.requires.whole.3))) (omega (arith, alphas_end (job_of args.b.now args.h) args.source args.alphas.now args.part.now c.requires.in_bounds.1 c.requires.in_bounds.2 (omega (arith, c.requires.in_bounds.0)))); boxes_value = wrote_as (protein_of args.b.now args.h) args.source _ args.part.now _ _ _ _ _ _ (alphas_map (job_of args.b.now args.h) args.source args.alphas.now args.part.now c.requires.in_bounds.1 c.requires.in_bounds.2 (omega (arith, c.requires.in_bounds.0))) (oxygens_map (job_of args.b.now args.h) args.source args.oxygens.now args.part.now c.requires.in_bounds.1 c.requires.in_bounds.3 (omega (arith, c.requires.in_bounds.0))) write-tube.ensures c.add_tube.ensures }
