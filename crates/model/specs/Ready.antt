-- What a program that writes a built mesh as a file stands on, between functions: room for K, V and T in the buffers, and every corner one of the V vertices.
use Rattle.std.specs.Prelude.{ℕ, ◌*◌, ◌≤◌, List, Float, length, take}
use Rattle.buffers.specs.declared.Counts.{Counts}
use Rattle.facets.specs.Facets.{Drawn}

pub record Ready (positions : List Float) (triangles tubes : List ℕ) (boxes : List Float) (c : Counts) : Type 0 where
  pub vertices : 3 * c.vertices ≤ length positions
  pub corners : 3 * c.triangles ≤ length triangles
  pub records : 5 * c.tubes ≤ length tubes
  pub sides : 6 * c.tubes ≤ length boxes
  pub few : c.triangles ≤ 2097152
  pub drawn : Drawn (take (3 * c.vertices) positions) (take (3 * c.triangles) triangles)
