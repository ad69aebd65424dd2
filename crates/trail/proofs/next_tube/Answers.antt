use mathlib.Core.Path.{refl, sym, ◌∙◌}
use native.Mathlib.Omega.{arith}
use Rattle.protein.specs.Job.{job_of, segments_of}
use Rattle.protein.specs.Places.{place_of, far_by}
use Rattle.scratch.proofs.Laws.{kept_refl, kept_then}
use Rattle.trail.proofs.Places.{finds_here, finds_moved, finds_done, got_as}
use Rattle.trail.proofs.next_tube.Goals as goal

pub loop-p-init : goal.loop-p-init
loop-p-init c = (c.requires.1, kept_refl _ _ _, refl, omega arith)

pub look-found-requires : goal.look-found-requires
look-found-requires c = (c.requires.0, c.loop-p.invariant.0, c.requires.2)

pub returns-in-Here : goal.returns-in-Here
returns-in-Here c =
    let args = c.args in
    let inv = c.loop-p.invariant in
    (kept_then _ _ _ _ _ _ _ (omega arith) (omega arith) inv.1 c.look-found.ensures.0, got_as (job_of args.b.now args.h) (segments_of args.q.now) (far_by (place_of args.b.now args.h)) _ _ _ _ _ _ _ _ (sym inv.2) inv.3 (finds_here (job_of args.b.now args.h) (segments_of args.q.now) (far_by (place_of args.b.now args.h)) _ _ _ _ _ c.look-found.ensures.1 c.in-Here.is))

pub returns-in-Done : goal.returns-in-Done
returns-in-Done c =
    let args = c.args in
    (kept_then _ _ _ _ _ _ _ (omega arith) (omega arith) c.loop-p.invariant.1 c.look-found.ensures.0, c.loop-p.invariant.2 ∙ finds_done (job_of args.b.now args.h) (segments_of args.q.now) args.full (far_by (place_of args.b.now args.h)) _ _ _ _ c.look-found.ensures.1 c.in-Done.is)

pub loop-p-smaller : goal.loop-p-smaller
loop-p-smaller c =
    let args = c.args in
    (finds_moved (job_of args.b.now args.h) (segments_of args.q.now) (far_by (place_of args.b.now args.h)) _ _ _ _ _ c.look-found.ensures.1 c.in-Moved.is).less

pub loop-p-preserved : goal.loop-p-preserved
loop-p-preserved c =
    let args = c.args in
    let inv = c.loop-p.invariant in
    let O = finds_moved (job_of args.b.now args.h) (segments_of args.q.now) (far_by (place_of args.b.now args.h)) _ _ _ _ _ c.look-found.ensures.1 c.in-Moved.is in
    (O.at, kept_then _ _ _ _ _ _ _ (omega arith) (omega arith) inv.1 c.look-found.ensures.0, inv.2 ∙ O.left, omega (arith, O.less, inv.3))
