-- A program's own buffers.
use Rattle.std.specs.Prelude.{length}
use Rattle.stream.specs.declared.buffers.Buffers.{Buffers}
use Rattle.stream.specs.declared.requests.Lengths.{Lengths}

-- how many places each has
abbrev pub lengths : Buffers → Lengths
lengths b = record {
  positions = length b.positions.now;
  normals = length b.normals.now;
  tags = length b.tags.now;
  triangles = length b.triangles.now;
  tubes = length b.tubes.now;
  boxes = length b.boxes.now;
  words = length b.words.now;
  floats = length b.floats.now;
}
