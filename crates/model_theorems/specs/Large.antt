-- The command's large room: how long its buffers are at least. That its arrays are so long is asked in crates/ribbon_command (`holds_every_job`).
use Rattle.std.specs.Prelude.{ℕ, ◌≤◌, length}
use Rattle.room.specs.Room.{Buffers}

-- for the mesh 3V, 3V, V, 3T, 5K and 6K places, where V is 1,048,576, T twice that, and K 14,169, since the shortest tube has 74 vertices; for the scratch
-- 8R and 32R, where R is 16,384
pub record LargeRoom (b : Buffers) : Type 0 where
  pub positions : 3145728 ≤ length b.outs.positions
  pub normals : 3145728 ≤ length b.outs.normals
  pub tags : 1048576 ≤ length b.outs.tags
  pub triangles : 6291456 ≤ length b.outs.triangles
  pub tubes : 70845 ≤ length b.outs.tubes
  pub boxes : 85014 ≤ length b.outs.boxes
  pub words : 131072 ≤ length b.scratch.words
  pub floats : 524288 ≤ length b.scratch.floats

-- for a job 13 + C + 9S + 33A bytes, where C is 255, and S and A are 65,535
abbrev pub large_job : ℕ
large_job = 2752738
