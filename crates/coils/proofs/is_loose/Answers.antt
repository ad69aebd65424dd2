use native.Mathlib.Omega.{arith}
use Rattle.coils.proofs.Laws.{loose_none, loose_covered, loose_shown}
use Rattle.protein.specs.Job.{job_of}
use Rattle.coils.proofs.is_loose.Goals as goal

pub returns-then-t-n-eq0 : goal.returns-then-t-n-eq0
returns-then-t-n-eq0 c = loose_none (job_of c.args.b.now c.args.h) _ _ c.requires.1 _ c.requires.2 c.if-t-n-eq0.true

pub returns-then-t-n-ne0 : goal.returns-then-t-n-ne0
returns-then-t-n-ne0 c = loose_covered (job_of c.args.b.now c.args.h) _ _ c.requires.1 _ c.requires.2 c.if-t-n-eq0.false c.if-t-n-ne0.true

pub overflow_cast-t : goal.overflow_cast-t
overflow_cast-t c =
    let pre = c.requires in
    omega (arith, pre.1.chains c.args.r pre.2, pre.3 c.args.r)

pub is_shown-requires : goal.is_shown-requires
is_shown-requires c =
    let pre = c.requires in
    (pre.0, omega (arith, pre.1.chains c.args.r pre.2, pre.3 c.args.r))

pub returns : goal.returns
returns c = loose_shown (job_of c.args.b.now c.args.h) _ _ c.requires.1 _ c.requires.2 _ c.if-t-n-eq0.false c.if-t-n-ne0.false c.is_shown.ensures
