use mathlib.Core.Path.{◌∙◌}
use native.Mathlib.Omega.{arith}
use Rattle.protein.specs.Job.{job_of}
use Rattle.coils.specs.Coils.{covered_in}
use Rattle.coils.proofs.Laws.{tables_clear, tables_again, covered_clear, loose_marked, loose_count, loose_coiled, loose_kept}
use Rattle.coils.proofs.list_loose.Goals as goal

pub clear-requires : goal.clear-requires
clear-requires c = omega (arith, c.requires.1.size)

pub mark_loose-requires : goal.mark_loose-requires
mark_loose-requires c =
    let pre = c.requires in
    let args = c.args in
    let J = job_of args.b.now args.h in
    let cov = covered_in args.t.now args.h.residues in
    (pre.0, tables_again J cov _ _ (tables_clear J cov _ _ pre.1 c.clear.ensures) (covered_clear J _ _ c.clear.ensures), pre.2)

pub list_frames-requires : goal.list_frames-requires
list_frames-requires c = (omega arith, omega (arith, c.mark_loose.ensures.size, c.clear.ensures.size, c.requires.1.size), omega arith, omega (arith, c.requires.0.few_residues))

pub shape_of-t : goal.shape_of-t
shape_of-t c = c.list_frames.ensures.1.size ∙ c.mark_loose.ensures.size ∙ c.clear.ensures.size

pub returns : goal.returns
returns c =
    let args = c.args in
    let p = c.requires.1 in
    let q = c.clear.ensures in
    let r = c.list_frames.ensures in
    let J = job_of args.b.now args.h in
    let cov = covered_in args.t.now args.h.residues in
    let s = loose_marked J cov _ _ _ c.mark_loose.ensures (covered_clear J _ _ q) in
    (loose_count J cov _ _ _ _ p q s _ r.0 r.1, loose_coiled J cov _ _ _ _ p q s _ r.0 r.1, loose_kept J cov _ _ _ _ p q s _ r.0 r.1)
