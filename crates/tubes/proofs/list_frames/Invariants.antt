use Prim.Native.Nat.{◌≤◌, ◌-◌}
use mathlib.Core.Path.{◌≡◌}
use lib.ListN.{length}
use Rattle.tubes.specs.Frames.{chosen}
use Rattle.tubes.specs.Lists.{Listed, marked}
use Rattle.tubes.proofs.list_frames.Given as goal

abbrev pub invariant-loop-k : goal.invariant-loop-k
invariant-loop-k l = (l.first ≤ l.k) × ((l.k ≤ l.end) × ((l.m ≤ l.k) × ((l.m ≡ length (chosen (marked l.initial.t l.table l.first) l.k)) × Listed (chosen (marked l.initial.t l.table l.first) l.k) l.at l.end l.initial.t l.t)))
