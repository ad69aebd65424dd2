use Rattle.appearance.specs.Index.{Index}
use Rattle.pdb_wanted.proofs.gather.Given as goal

abbrev pub invariant-loop-r : goal.invariant-loop-r
invariant-loop-r l = (goal.iterator-loop-r).can_next l.r-iterator × (goal.iterator-loop-r).is_finite l.r-iterator × Index l.keys l.links l.n
