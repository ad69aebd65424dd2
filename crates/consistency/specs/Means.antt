-- What it means that mesh buffers are consistent, clause by clause: the same as the test of specs/Consistent (`consistent_means` and `means_consistent` of
-- proofs/Means), for whoever proves with it.
use Rattle.std.specs.Prelude.{ℕ, ◌+◌, ◌<◌, ◌≤◌, List, ◌≡◌}
use Rattle.buffers.specs.declared.Counts.{Counts}
use Rattle.buffers.specs.Outs.{Outs, Room, most_vertices}
use Rattle.edges.specs.Sound.{CornersIn}
use Rattle.edges.specs.Tube.{vertices}
use Rattle.consistency.specs.Consistent.{kind_at, residues_at, first_vertex_at, first_triangle_at, vertex_start, triangle_start, corners_from}

-- the corners of tube i, by the running sums
abbrev pub corners_of : ℕ → ℕ → Outs → ℕ → List ℕ
corners_of p d o i = corners_from p d o.triangles (residues_at o.tubes i) (triangle_start p d o.tubes i)

-- 02 §4's sentence, clause by clause
pub record IsConsistent (p d : ℕ) (o : Outs) (c : Counts) : Type 0 where
  pub room : Room c.tubes c.vertices c.triangles o
  pub limit : c.vertices ≤ most_vertices
  pub kinds : (i : ℕ) → i < c.tubes → kind_at o.tubes i ≤ 2
  pub sizes : (i : ℕ) → i < c.tubes → (2 ≤ residues_at o.tubes i) × (residues_at o.tubes i ≤ 16384)
  pub vertex_starts : (i : ℕ) → i < c.tubes → first_vertex_at o.tubes i ≡ vertex_start p d o.tubes i
  pub triangle_starts : (i : ℕ) → i < c.tubes → first_triangle_at o.tubes i ≡ triangle_start p d o.tubes i
  pub corners : (i : ℕ) → i < c.tubes
      → CornersIn (vertex_start p d o.tubes i) (vertex_start p d o.tubes i + vertices p d (residues_at o.tubes i)) (corners_of p d o i)
  pub vertex_end : vertex_start p d o.tubes c.tubes ≡ c.vertices
  pub triangle_end : triangle_start p d o.tubes c.tubes ≡ c.triangles
