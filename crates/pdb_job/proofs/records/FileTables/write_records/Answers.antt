use native.Mathlib.Omega.{arith}
use Rattle.pdb_file.proofs.Laws.{begun}
use Rattle.pdb_job.proofs.Writing.{writing_start, writing_over, writing_held, writing_segment, writing_atom, writing_more}
use Rattle.pdb_job.proofs.records.FileTables.write_records.Goals as goal

pub loop-r-init : goal.loop-r-init
loop-r-init c =
    (tt, tt, writing_start _ _ _ _ (omega arith) c.requires.0 c.requires.1 _ (begun _ _ _ c.records-r-items.ensures c.into_iter-r-iterator.ensures.into_iter_gives))

pub shape_of-out : goal.shape_of-out
shape_of-out c = c.loop-r.invariant.2.same

pub write_record-places-requires : goal.write_record-places-requires
write_record-places-requires c =
    let t = c.args.self.now in
    let inv = c.loop-r.invariant.2 in
    let o = c.in-Some.ensures.steps in
    (writing_held _ _ _ _ _ _ _ inv _ _ o _ _ _ _ t.residues.keyed t.chains, writing_segment _ _ _ _ _ _ _ inv _ _ o, writing_atom _ _ _ _ _ _ _ inv _ _ o)

pub loop-r-preserved : goal.loop-r-preserved
loop-r-preserved c =
    let p = c.write_record-places.ensures in
    (tt, tt, writing_more _ _ _ _ _ _ _ c.loop-r.invariant.2 _ _ c.in-Some.ensures.steps _ _ p.0 p.1 p.2)

pub returns : goal.returns
returns c = writing_over _ _ _ _ _ _ _ c.loop-r.invariant.2 c.in-None.ensures.steps
