use Prim.Native.Nat.{◌-◌}
use native.Mathlib.Omega.{arith}
use Rattle.protein.specs.Job.{job_of, segments_of}
use Rattle.protein.specs.Places.{place_of, far_by}
use Rattle.trail.specs.Place.{later, steps}
use Rattle.scratch.proofs.Laws.{kept_refl}
use Rattle.trail.proofs.Places.{frames_low, none_here, finds_as, steps_later, to_few, short_here, tube_here}
use Rattle.trail.proofs.look.Goals as goal

pub next_piece-step-requires : goal.next_piece-step-requires
next_piece-step-requires c = (c.requires.0, c.requires.1.stands)

pub returns-in_default : goal.returns-in_default
returns-in_default c =
    let args = c.args in
    let load = c.load in
    (load.ensures.0, finds_as (job_of args.b.now args.h) (segments_of args.q.now) args.full (far_by (place_of args.b.now args.h)) _ _ (later args.h.residues args.c.source (args.c.all - args.c.past)) (steps args.h.residues args.c) _ load.result (none_here (job_of args.b.now args.h) (segments_of args.q.now) (far_by (place_of args.b.now args.h)) args.scratch.now args.c c.requires.1 _ c.next_piece-step.ensures c.in_default.is) (steps_later args.h.residues args.c) load.ensures.1)

pub overflow_add-at : goal.overflow_add-at
overflow_add-at c =
    let args = c.args in
    let pre = c.requires in
    let f = to_few (job_of args.b.now args.h) (segments_of args.q.now) (far_by (place_of args.b.now args.h)) args.scratch.now args.c pre.1 _ c.next_piece-step.ensures _ c.in-Some.is in
    omega (arith, f.0, f.1, pre.1.stands.few, pre.0.few_residues)

pub returns-then-to-at : goal.returns-then-to-at
returns-then-to-at c =
    let args = c.args in
    (kept_refl _ _ _, short_here (job_of args.b.now args.h) (segments_of args.q.now) (far_by (place_of args.b.now args.h)) args.scratch.now args.c c.requires.1 _ c.next_piece-step.ensures _ c.in-Some.is c.if-to-at.true)

pub overflow_add-result : goal.overflow_add-result
overflow_add-result c =
    let args = c.args in
    let pre = c.requires in
    let f = to_few (job_of args.b.now args.h) (segments_of args.q.now) (far_by (place_of args.b.now args.h)) args.scratch.now args.c pre.1 _ c.next_piece-step.ensures _ c.in-Some.is in
    omega (arith, f.0, f.1, pre.1.stands.few, pre.0.few_residues, c.frames_at-list.ensures, frames_low args.c.source args.h.residues)

pub overflow_add-result-2 : goal.overflow_add-result-2
overflow_add-result-2 c =
    let args = c.args in
    let pre = c.requires in
    let f = to_few (job_of args.b.now args.h) (segments_of args.q.now) (far_by (place_of args.b.now args.h)) args.scratch.now args.c pre.1 _ c.next_piece-step.ensures _ c.in-Some.is in
    omega (arith, f.0, f.1, pre.1.stands.few, pre.0.few_residues, c.frames_at-list.ensures, frames_low args.c.source args.h.residues)

pub returns : goal.returns
returns c =
    let args = c.args in
    (kept_refl _ _ _, tube_here (job_of args.b.now args.h) (segments_of args.q.now) (far_by (place_of args.b.now args.h)) args.scratch.now args.c c.requires.1 _ c.next_piece-step.ensures _ c.in-Some.is c.frames_at-list.result c.frames_at-list.ensures c.if-to-at.false)
