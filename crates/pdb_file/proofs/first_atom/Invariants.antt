use Rattle.std.proofs.Common.{◌≡◌}
use Rattle.pdb_file.specs.Reading.{records, atoms}
use Rattle.pdb_file.specs.Faults.{first_atom}
use Rattle.pdb_file.specs.Steps.{left}
use Rattle.pdb_file.proofs.first_atom.Given as goal

abbrev pub invariant-loop-r : goal.invariant-loop-r
invariant-loop-r l = (goal.iterator-loop-r).can_next l.r-iterator × (goal.iterator-loop-r).is_finite l.r-iterator
    × (first_atom l.name (atoms (records l.s)) ≡ first_atom l.name (atoms (left l.r-iterator)))
