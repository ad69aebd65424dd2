use Rattle.segments.proofs.Laws.{count_is, count_few, marked_few, marked_many}
use Rattle.protein.specs.Job.{job_of}
use Rattle.segments.proofs.mark.Goals as goal

pub returns-then-m-lt2 : goal.returns-then-m-lt2
returns-then-m-lt2 c =
    let args = c.args in
    let p = c.requires.2 in
    let q = c.list_frames-m.ensures in
    let r = c.load_segment-part.ensures in
    (count_is (job_of args.b.now args.h) args.g _ _ _ _ _ p r _ q.0 q.1, count_few (job_of args.b.now args.h) args.g _ _ _ _ _ p r _ q.0 q.1, marked_few (job_of args.b.now args.h) args.g _ _ _ _ _ p r _ q.0 q.1 c.if-m-lt2.true)

pub returns : goal.returns
returns c =
    let args = c.args in
    let p = c.list_frames-m.ensures in
    let q = c.requires.2 in
    let r = c.load_segment-part.ensures in
    (count_is (job_of args.b.now args.h) args.g _ _ _ _ _ q r _ p.0 p.1, count_few (job_of args.b.now args.h) args.g _ _ _ _ _ q r _ p.0 p.1, marked_many (job_of args.b.now args.h) args.g _ _ _ _ _ q r _ p.0 p.1 _ c.cover.ensures c.if-m-lt2.false)
