use native.Mathlib.Omega.{arith}
use Rattle.protein.specs.Job.{job_of, segments_of}
use Rattle.protein.specs.Places.{place_of, far_by}
use Rattle.trail.proofs.Places.{begin_at, begin_left}
use Rattle.trail.proofs.begin.Goals as goal

pub returns : goal.returns
returns c =
    let args = c.args in
    let p = c.prepare.ensures in
    let J = job_of args.b.now args.h in
    let G = segments_of args.q.now in
    (p.0, begin_at J G _ c.order_of-order.result _ (omega (arith, p.0.size, c.requires.1)) c.order_of-order.ensures (p.1 G), begin_left J G (far_by (place_of args.b.now args.h)) _ c.order_of-order.result _)
