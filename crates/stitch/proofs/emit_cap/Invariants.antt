use mathlib.Core.Path.{◌≡◌}
use Rattle.lists.specs.Put.{put, upto}
use Rattle.edges.specs.Tube.{cap_side}
use Rattle.stitch.proofs.emit_cap.Given as goal

abbrev pub invariant-loop-k : goal.invariant-loop-k
invariant-loop-k l = l.triangles ≡ put l.initial.triangles l.at (upto (cap_side 8 l.inward l.center l.base) l.k)
