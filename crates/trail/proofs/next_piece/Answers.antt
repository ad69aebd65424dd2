use Prim.Native.Nat.{◌+◌}
use mathlib.Core.Path.{refl}
use native.Mathlib.Omega.{arith}
use Rattle.protein.specs.Job.{job_of}
use Rattle.protein.specs.Places.{place_of, far_by}
use lib.ListN.{length-take}
use Rattle.trail.proofs.Places.{frames_low, alphas_low, list_fits, alphas_fit, next_on, next_placed, next_sizes, next_says}
use Rattle.trail.proofs.next_piece.Goals as goal

pub overflow_add-end : goal.overflow_add-end
overflow_add-end c = omega (arith, c.frames_at-list.ensures, frames_low c.args.c.source c.args.h.residues, c.requires.1.few, c.requires.0.few_residues)

pub overflow_add-past : goal.overflow_add-past
overflow_add-past c = omega (arith, c.alphas_at-alphas.ensures, alphas_low c.args.c.source c.args.h.residues, c.requires.0.few_residues)

pub offset_bounds-t-list : goal.offset_bounds-t-list
offset_bounds-t-list c = omega (arith, c.frames_at-list.ensures, frames_low c.args.c.source c.args.h.residues, c.requires.0.few_residues)

pub slice_bounds-next-end : goal.slice_bounds-next-end
slice_bounds-next-end c =
    let args = c.args in
    let frames-at = c.frames_at-list in
    list_fits (job_of args.b.now args.h) args.t.now args.c c.requires.1 frames-at.result (frames-at.result + args.c.frames) c.alphas_at-alphas.result (c.alphas_at-alphas.result + args.h.residues) frames-at.ensures refl c.alphas_at-alphas.ensures refl

pub slice_bounds-next-end-2 : goal.slice_bounds-next-end-2
slice_bounds-next-end-2 c = simp length-take (omega (arith, c.requires.1.size))

pub offset_bounds-t-alphas : goal.offset_bounds-t-alphas
offset_bounds-t-alphas c = omega (arith, c.alphas_at-alphas.ensures, alphas_low c.args.c.source c.args.h.residues, c.requires.0.few_residues)

pub slice_bounds-next-end-3 : goal.slice_bounds-next-end-3
slice_bounds-next-end-3 c =
    let args = c.args in
    let frames-at = c.frames_at-list in
    let alphas_at_lem = c.alphas_at-alphas in
    alphas_fit (job_of args.b.now args.h) args.t.now args.c c.requires.1 frames-at.result (frames-at.result + args.c.frames) alphas_at_lem.result (alphas_at_lem.result + args.h.residues) frames-at.ensures refl alphas_at_lem.ensures refl

pub next-requires : goal.next-requires
next-requires c =
    let args = c.args in
    let frames-at = c.frames_at-list in
    let pre = c.requires in
    let alphas_at_lem = c.alphas_at-alphas in
    (pre.0, next_on (job_of args.b.now args.h) args.t.now args.c pre.1 frames-at.result (frames-at.result + args.c.frames) alphas_at_lem.result (alphas_at_lem.result + args.h.residues) frames-at.ensures refl alphas_at_lem.ensures refl, next_placed (job_of args.b.now args.h) args.t.now args.c pre.1 frames-at.result (frames-at.result + args.c.frames) alphas_at_lem.result (alphas_at_lem.result + args.h.residues) frames-at.ensures refl alphas_at_lem.ensures refl, next_sizes (job_of args.b.now args.h) args.t.now args.c pre.1 frames-at.result (frames-at.result + args.c.frames) alphas_at_lem.result (alphas_at_lem.result + args.h.residues) frames-at.ensures refl alphas_at_lem.ensures refl)

pub returns : goal.returns
returns c =
    let args = c.args in
    let frames-at = c.frames_at-list in
    let alphas_at_lem = c.alphas_at-alphas in
    next_says (job_of args.b.now args.h) args.t.now args.c c.requires.1 frames-at.result (frames-at.result + args.c.frames) alphas_at_lem.result (alphas_at_lem.result + args.h.residues) frames-at.ensures refl alphas_at_lem.ensures refl (far_by (place_of args.b.now args.h)) c.next.result c.next.ensures
