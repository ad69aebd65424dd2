use Rattle.protein.specs.Job.{job_of}
use Rattle.stretch.proofs.Laws.{run_holds}
use Rattle.stretch.proofs.part_of_run.Goals as goal

pub returns : goal.returns
returns c =
    let args = c.args in
    run_holds (job_of args.b.now args.h) args.g args.from args.to _ _ c.first_from-lo.ensures c.first_from-hi.ensures
