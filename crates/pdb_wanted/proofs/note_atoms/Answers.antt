use Rattle.pdb_file.proofs.Laws.{begun}
use Rattle.pdb_wanted.proofs.Wanted.{noting_start, noting_over, noting_more}
use Rattle.pdb_wanted.proofs.note_atoms.Goals as goal

pub loop-r-init : goal.loop-r-init
loop-r-init c = (tt, tt, noting_start _ _ _ _ _ _ (begun _ _ _ c.records-r-items.ensures c.into_iter-r-iterator.ensures.into_iter_gives) c.requires)

pub loop-r-preserved : goal.loop-r-preserved
loop-r-preserved c =
    let inv = c.loop-r.invariant.2 in
    (tt, tt, noting_more _ _ _ _ _ _ inv _ _ c.in-Some.ensures.steps _ (c.note_atom.ensures inv.done inv.wanted))

pub returns : goal.returns
returns c = noting_over _ _ _ _ _ _ c.loop-r.invariant.2 c.in-None.ensures.steps
