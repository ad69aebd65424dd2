use Rattle.protein.specs.Job.{job_of, segments_of}
use Rattle.protein.specs.Places.{place_of, far_by}
use Rattle.trail.proofs.Places.{segment_entered}
use Rattle.trail.proofs.next_segment.Goals as goal

pub enter-frames-requires : goal.enter-frames-requires
enter-frames-requires c =
    let pre = c.requires in record { whole = (pre.0, c.range_at-g.ensures.1, pre.1, pre.2); chains = (pre.4.chains, pre.5) }

pub returns : goal.returns
returns c =
    let args = c.args in
    let pre = c.requires in
    segment_entered (job_of args.b.now args.h) (segments_of args.q.now) (far_by (place_of args.b.now args.h)) args.i c.kind-kind.result c.enter-frames.result c.range_at-g.result args.order _ _ c.range_at-g.ensures.0 pre.1 pre.2 pre.3 pre.4 c.kind-kind.ensures.0 c.kind-kind.ensures.1 c.enter-frames.ensures
