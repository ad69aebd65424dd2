use Rattle.pdb_wanted.proofs.Wanted.{Noting}
use Rattle.pdb_wanted.proofs.note_atoms.Given as goal

abbrev pub invariant-loop-r : goal.invariant-loop-r
invariant-loop-r l = (goal.iterator-loop-r).can_next l.r-iterator × (goal.iterator-loop-r).is_finite l.r-iterator
    × Noting l.s l.index.keys.now l.index.links.now l.bits l.index.n l.r-iterator
