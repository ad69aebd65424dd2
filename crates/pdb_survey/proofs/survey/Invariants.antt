use Rattle.pdb_survey.proofs.Walk.{Surveying}
use Rattle.pdb_survey.proofs.survey.Given as goal

abbrev pub invariant-loop-r : goal.invariant-loop-r
invariant-loop-r l = (goal.iterator-loop-r).can_next l.r-iterator × (goal.iterator-loop-r).is_finite l.r-iterator
    × Surveying l.s l.keys l.links l.ends l.marks l.r-iterator l.line l.fault l.ahead l.counts
