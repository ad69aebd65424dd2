use mathlib.Core.Path.{◌≡◌}
use Rattle.lists.specs.Put.{put, upto}
use Rattle.edges.specs.Tube.{band_side}
use Rattle.stitch.proofs.append_ring_and_stitch.Given as goal

abbrev pub invariant-loop-k : goal.invariant-loop-k
invariant-loop-k l = l.triangles ≡ put l.initial.triangles l.at (upto (band_side 8 l.a l.b) l.k)
