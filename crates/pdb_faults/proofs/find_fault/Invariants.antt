use Prim.Native.Nat.{◌≤◌, ◌-◌, ◌+◌}
use mathlib.Core.Bool.{false}
use mathlib.Core.Path.{◌≡◌}
use lib.ListN.{length}
use Rattle.pdb_file.specs.Reading.{atoms_of, names}
use Rattle.pdb_file.specs.Faults.{fault_in, faults}
use Rattle.pdb_file.specs.Steps.{left}
use Rattle.pdb_survey.specs.Lines.{own_faults, ahead}
use Rattle.pdb_wanted.specs.Wanted.{Wanted}
use Rattle.pdb_faults.proofs.find_fault.Given as goal

abbrev pub invariant-loop-left : goal.invariant-loop-left
invariant-loop-left l = record {
  text : l.walk.text.now ≡ l.s;
  line : l.line ≤ l.walk.at + 1;
  fault : fault_in l.s ≡ faults (atoms_of l.s) l.line (left l.walk);
  own : l.own ≡ own_faults l.line (left l.walk);
  ahead : l.left ≡ ahead (left l.walk);
  wanted : Wanted l.keys l.links l.bits l.n (names (atoms_of l.s));
  same : l.more ≡ false → (l.keys ≡ l.initial.keys) × (l.links ≡ l.initial.links) × (l.n ≡ l.count);
}

abbrev pub decreases-loop-left : goal.decreases-loop-left
decreases-loop-left l = length l.s - l.walk.at
