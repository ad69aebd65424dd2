use native.Mathlib.Omega.{arith}
use Rattle.stretch.proofs.Laws.{met_span}
use Rattle.protein.specs.Job.{job_of}
use Rattle.segments.proofs.Laws.{noted_begins, loaded}
use Rattle.segments.proofs.load_segment.Goals as goal

pub fill_segment-requires : goal.fill_segment-requires
fill_segment-requires c =
    let args = c.args in
    let pre = c.requires in
    let S = c.span-residues.ensures in
    let C = c.clear_tables.ensures in
    let R = c.stretch-atoms.ensures in record { whole = (pre.0, omega arith, omega (arith, pre.2, C.size), S.order, S.to, pre.1); reaches = (R, met_span _ _ _ _ R S, noted_begins (job_of args.b.now args.h) _ _ _ _ _ C) }

pub returns : goal.returns
returns c =
    let args = c.args in
    let S = c.span-residues.ensures in
    let F = c.fill_segment.ensures in
    loaded (job_of args.b.now args.h) args.g _ _ _ _ _ _ S.order S.to c.clear_tables.ensures F.0 F.1
