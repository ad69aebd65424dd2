use lib.ListN.{take, drop}
use mathlib.Core.Path.{◌≡◌}
use mathlib.Core.List.{◌++◌}
use Rattle.scaling.specs.Scale.{scaled}
use Rattle.scaling.proofs.scale_positions.Given as goal

abbrev pub invariant-loop-x : goal.invariant-loop-x
invariant-loop-x l = take l.x-index l.positions ++ scaled l.k (drop l.x-index l.positions) ≡ scaled l.k l.initial.positions
