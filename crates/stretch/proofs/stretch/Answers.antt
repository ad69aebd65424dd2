use native.Mathlib.Omega.{arith}
use Rattle.protein.specs.Job.{job_of}
use Rattle.stretch.proofs.Laws.{reaches_front, reaches_both, reaches_behind}
use Rattle.stretch.proofs.stretch.Goals as goal

pub returns-then-end-runs : goal.returns-then-end-runs
returns-then-end-runs c =
    let args = c.args in
    let O = c.past_inside-end.ensures in
    reaches_front (job_of args.b.now args.h) args.g args.order.second _ _ c.requires.1.second.few c.near-p.ensures O.1 O.2 (omega arith)

pub returns-then-p : goal.returns-then-p
returns-then-p c =
    let args = c.args in
    let O = c.past_inside-end.ensures in
    reaches_both (job_of args.b.now args.h) args.g args.order.second _ _ c.requires.1.second.few c.near-p.ensures O.1 O.2 O.0

pub returns : goal.returns
returns c =
    let args = c.args in
    let O = c.past_inside-end.ensures in
    reaches_behind (job_of args.b.now args.h) args.g args.order.second _ _ c.requires.1.second.few c.near-p.ensures O.1 O.2 _ (omega arith) c.first_inside-from.ensures.0 c.first_inside-from.ensures.2
