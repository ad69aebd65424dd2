-- What the command `ribbon` writes of a mesh that was built. Each part is what a contract says: `scale_positions` of scaling, `put_head` of facets and `put_block`
-- of blocks. No contract speaks of what reaches a descriptor, so that these parts are handed to it, in this order and each once, is to be read in
-- crates/model (`finish`, `send_file`, `send_facets`).
use Rattle.std.specs.Prelude.{ℕ, ◌*◌, List, ◌++◌, Float, take}
use Rattle.lists.specs.Put.{upto}
use Rattle.buffers.specs.declared.Counts.{Counts}
use Rattle.buffers.specs.Outs.{Outs}
use Rattle.facets.specs.Facets.{stl_head}
use Rattle.blocks.specs.Blocks.{block_at, block_count}
use Rattle.scaling.specs.Scale.{scaled}

-- the mesh, cut out of the front of its buffers: the 3V floats of its positions, each times k, and the 3T corners of its triangles
abbrev pub model_positions : Float → Outs → Counts → List Float
model_positions k o c = scaled k (take (3 * c.vertices) o.positions)

abbrev pub model_triangles : Outs → Counts → List ℕ
model_triangles o c = take (3 * c.triangles) o.triangles

-- THE bytes that the command writes at the factor k: a head, and then block after block of a thousand facets
unfoldable pub model_bytes : Float → Outs → Counts → List ℕ
model_bytes k o c = stl_head c.triangles ++ upto (block_at (model_positions k o c) (model_triangles o c)) (block_count c.triangles)
