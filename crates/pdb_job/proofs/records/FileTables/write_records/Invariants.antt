use Rattle.pdb_job.proofs.Writing.{Writing}
use Rattle.pdb_job.proofs.records.FileTables.write_records.Given as goal

abbrev pub invariant-loop-r : goal.invariant-loop-r
invariant-loop-r l = (goal.iterator-loop-r).can_next l.r-iterator × (goal.iterator-loop-r).is_finite l.r-iterator
    × Writing l.self.text.now l.initial.out l.first l.second l.out l.r-iterator l.places
