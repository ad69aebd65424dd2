use mathlib.Core.Path.{◌≡◌}
use Prim.Native.Nat.{suc, ◌+◌, ◌*◌, ◌≤◌}
use Rattle.lists.specs.Put.{put, upto}
use Rattle.edges.specs.Tube.{ring, band_at}
use Rattle.stitch.proofs.tube_triangles.Given as goal

abbrev pub invariant-loop-j : goal.invariant-loop-j
invariant-loop-j l = (l.j ≤ l.bands) × (l.place ≡ l.at + 24 + l.j * 48) × (l.a ≡ ring 8 l.first l.j) × (l.b ≡ ring 8 l.first (suc l.j)) × (l.a + 8 ≤ l.b) × (l.b ≡ l.first + (8 * l.j + 9))
    × (l.triangles ≡ put l.initial.triangles (l.at + 24) (upto (band_at 8 l.first) l.j))
