use mathlib.Core.Bool.{false}
use mathlib.Core.Path.{ap, ◌∙◌}
use native.Mathlib.Omega.{arith}
use Rattle.protein.specs.Job.{job_of, segments_of}
use Rattle.protein.specs.Places.{place_of, far_by}
use Rattle.tubes.specs.List.{tube_list}
use Rattle.protein.specs.Protein.{protein_of}
use Rattle.scratch.proofs.Laws.{kept_refl, kept_then}
use Rattle.walk.specs.Walk.{counted, all_frames}
use Rattle.walk.proofs.Laws.{small_way, small_end, twice_grown, counted_turn, counted_over}
use Rattle.trail.proofs.Places.{gives_got, gives_end}
use Rattle.walk.proofs.Found.{got_few, got_grown}
use Rattle.walk.proofs.count_all.Goals as goal

pub begin-c-requires : goal.begin-c-requires
begin-c-requires c = (c.requires.0, c.requires.1)

pub loop-from-init : goal.loop-from-init
unfolding tube_list
loop-from-init c = (c.begin-c.ensures.1, kept_refl _ _ _, c.requires.3.twice, ap (counted c.args.t) c.begin-c.ensures.2)

pub next_tube-requires : goal.next_tube-requires
next_tube-requires c = (c.requires.0, c.loop-from.invariant.0, c.requires.2)

pub returns : goal.returns
returns c =
    let args = c.args in
    (counted_over _ _ _ (gives_end (job_of args.b.now args.h) (segments_of args.q.now) false (far_by (place_of args.b.now args.h)) _ _ _ _ c.next_tube.ensures.1 c.in_default.is) c.loop-from.invariant.3, kept_then _ _ _ _ _ _ _ (omega arith) (omega arith) c.begin-c.ensures.0 (kept_then _ _ _ _ _ _ _ (omega arith) (omega arith) c.loop-from.invariant.1 c.next_tube.ensures.0))

pub offset_bounds-scratch-from : goal.offset_bounds-scratch-from
offset_bounds-scratch-from c =
    let args = c.args in
    let G = gives_got (job_of args.b.now args.h) (segments_of args.q.now) (far_by (place_of args.b.now args.h)) _ _ _ _ _ c.next_tube.ensures.1 c.in-Some.is in
    omega (arith, G.long, G.fits, G.at.stands.size, c.requires.0.few_residues)

pub bounds-scratch-from : goal.bounds-scratch-from
bounds-scratch-from c =
    let args = c.args in
    let G = gives_got (job_of args.b.now args.h) (segments_of args.q.now) (far_by (place_of args.b.now args.h)) _ _ _ _ _ c.next_tube.ensures.1 c.in-Some.is in
    omega (arith, G.long, G.fits, G.at.stands.size, c.requires.0.few_residues)

pub overflow_cast-scratch : goal.overflow_cast-scratch
overflow_cast-scratch c = omega (arith, c.type_inv.scratch c.in-Some.from)

pub overflow_sub-to : goal.overflow_sub-to
overflow_sub-to c =
    let args = c.args in
    let G = gives_got (job_of args.b.now args.h) (segments_of args.q.now) (far_by (place_of args.b.now args.h)) _ _ _ _ _ c.next_tube.ensures.1 c.in-Some.is in
    omega (arith, G.long)

pub add_tube-s-requires : goal.add_tube-s-requires
add_tube-s-requires c =
    let args = c.args in
    let pre = c.requires in
    let G = gives_got (job_of args.b.now args.h) (segments_of args.q.now) (far_by (place_of args.b.now args.h)) _ _ _ _ _ c.next_tube.ensures.1 c.in-Some.is in
    (omega (arith, G.long), omega (arith, got_few (job_of args.b.now args.h) (segments_of args.q.now) (far_by (place_of args.b.now args.h)) _ _ _ _ _ _ G, pre.0.few_residues), small_way _ _ _ all_frames c.loop-from.invariant.3 c.loop-from.invariant.2 (small_end (protein_of args.b.now args.h) (segments_of args.q.now) _ pre.0.few_residues pre.4 pre.3))

pub loop-from-smaller : goal.loop-from-smaller
loop-from-smaller c =
    let args = c.args in
    let G = gives_got (job_of args.b.now args.h) (segments_of args.q.now) (far_by (place_of args.b.now args.h)) _ _ _ _ _ c.next_tube.ensures.1 c.in-Some.is in
    G.less

pub loop-from-preserved : goal.loop-from-preserved
loop-from-preserved c =
    let args = c.args in
    let loop = c.loop-from in
    let G = gives_got (job_of args.b.now args.h) (segments_of args.q.now) (far_by (place_of args.b.now args.h)) _ _ _ _ _ c.next_tube.ensures.1 c.in-Some.is in
    let g = c.add_tube-s.ensures in
    (G.at, kept_then _ _ _ _ _ _ _ (omega arith) (omega arith) loop.invariant.1 c.next_tube.ensures.0, rw g (twice_grown loop.s _ _ _ (omega (arith, G.long)) loop.invariant.2), counted_turn _ _ _ _ _ _ G.left (g ∙ got_grown (job_of args.b.now args.h) (segments_of args.q.now) (far_by (place_of args.b.now args.h)) _ _ _ _ _ _ G _) loop.invariant.3)
