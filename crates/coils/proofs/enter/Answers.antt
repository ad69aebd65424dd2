use native.Mathlib.Omega.{arith}
use Prim.Native.Nat.{◌-◌}
use Rattle.protein.specs.Job.{job_of}
use Rattle.coils.specs.Coils.{covered_in}
use Rattle.coils.proofs.Laws.{loose_few, loose_below, list_at, run_entered}
use Rattle.coils.proofs.enter.Goals as goal

pub extend-frames-requires : goal.extend-frames-requires
extend-frames-requires c =
    let pre = c.requires in
    let args = c.args in
    let J = job_of args.b.now args.h in
    let cov = covered_in args.scratch.now args.h.residues in
    let f = loose_few J cov in
    let e = c.run_end-end.ensures in
    let m = pre.2 in record {
      n_bound = (pre.0.few_residues, pre.1.tables.size, e.0, omega (arith, f, e.1, m));
      p_bound = (
        rw (list_at J cov _ pre.1 args.p (omega (arith, m, pre.3))) (loose_below J cov args.p (omega (arith, m, pre.3))),
        rw (list_at J cov _ pre.1 (c.run_end-end.result - 1) (omega (arith, m, e.0, e.1))) (loose_below J cov (c.run_end-end.result - 1) (omega (arith, m, e.0, e.1))),
      );
    }

pub returns : goal.returns
returns c =
    let args = c.args in
    let extend = c.extend-frames in
    let e = c.run_end-end.ensures in
    run_entered args.b.now args.h _ _ _ args.p c.run_end-end.result extend.result c.requires.1 e.0 (omega (arith, e.1, c.requires.2)) e.2 extend.ensures.0 extend.ensures.1
