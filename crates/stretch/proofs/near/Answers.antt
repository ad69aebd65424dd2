use native.Mathlib.Omega.{arith}
use Rattle.protein.specs.Job.{job_of}
use Rattle.stretch.proofs.Laws.{holds_both}
use Rattle.stretch.proofs.near.Goals as goal

pub returns : goal.returns
returns c =
    let args = c.args in
    let o = c.requires.1.second.order in
    let P = c.part_of_run-p.ensures in
    let Q = c.part_of_run-q.ensures in
    let J = c.joined.ensures in
    holds_both (job_of args.b.now args.h) args.g args.order.first args.order.second _ _ _ o P Q J.0 J.1 (J.2 _ (omega (arith, P.from, o)) Q.from) (J.3 _ (omega (arith, P.to, o)) Q.to)
