-- WHAT A USER OF THE COMMAND `ribbon` MAY RELY ON, as theorems over the promises of read_pdb (`Reads`), build
-- (`Builds`) and write_stl (`WritesStl`), over what the command writes (`model_bytes` of specs/Model) and over its
-- large room (`LargeRoom` and `large_job` of specs/Large). Assumes nothing.
use Rattle.std.specs.Prelude.{Result, ℕ}
use Prim.Native.Nat.{ℕ, ◌<◌, ◌≤◌}
use mathlib.Core.List.{List}
use mathlib.Core.Logic.{◌⊎◌}
use mathlib.Core.Path.{◌≡◌}
use lib.Ieee.{Float}
use lib.ListN.{length, take}
use Rattle.job.specs.Refusals.{number_of}
use Rattle.job.specs.declared.Refusal.{Refusal}
use Rattle.job.specs.declared.Refusal.TheVariants.{TooManyVertices}
use Rattle.mesh.specs.Mesh.{vertex_sum}
use Rattle.buffers.specs.declared.Counts.{Counts}
use Rattle.room.specs.Room.{Buffers}
use Rattle.std.specs.Prelude.{Result, Ok, Err}
use Rattle.promises.specs.Calls.{counts_of, Builds}
use Rattle.promises.specs.Meshes.{tubes_in, Passes}
use Rattle.promises.proofs.Checks.{passes_by}
use Rattle.pdb_reader.specs.Call.{Reads}
use Rattle.pdb_reader.proofs.Demands.{caused, buffer_passes}
use Rattle.facets.specs.Facets.{stl_size}
use Rattle.scaling.specs.Scale.{factor, scaled_mesh}
use Rattle.stl_writer.specs.Call.{file_of, WritesStl}
use Rattle.stl_theorems.specs.Floats.{AllF32}
use Rattle.stl_theorems.proofs.Demands.{built_consistent}
use Rattle.model_theorems.specs.Model.{model_bytes}
use Rattle.model_theorems.specs.Large.{LargeRoom, large_job}
use Rattle.model_theorems.proofs.Files.{model_file, model_written, model_plain}
use Rattle.model_theorems.proofs.Rooms.{large_refused, large_built, large_unread, large_too_many}
use Rattle.std.specs.Prelude.{Ok, Err}

-- ==== The file

-- of every mesh that build hands out, and at every factor, the head and the blocks that the command writes are the
-- file of that mesh with its positions scaled, byte for byte
pub command_writes : {s : List ℕ} {b b' : Buffers} {c : Counts} (k : Float)
    → Builds s b (Ok c) b' → model_bytes k b'.outs c ≡ file_of (scaled_mesh k b'.outs) c
command_writes k B = model_file 8 8 k _ _ (built_consistent B)

-- so write_stl, given the scaled mesh and 84 + 50T bytes, leaves exactly these bytes there
pub command_as_library : {s out out' : List ℕ} {b b' : Buffers} {c : Counts} {r : Result ℕ Refusal} (k : Float)
    → Builds s b (Ok c) b' → stl_size c.triangles ≤ length out
    → WritesStl 8 8 (scaled_mesh k b'.outs) c out r out'
    → take (stl_size c.triangles) out' ≡ model_bytes k b'.outs c
command_as_library k B h W = model_written 8 8 k _ _ (built_consistent B) h W

-- at a millimetre for an angstrom it is the file of the mesh itself
pub command_unscaled : {s : List ℕ} {b b' : Buffers} {c : Counts}
    → AllF32 b'.outs.positions → Builds s b (Ok c) b'
    → model_bytes (factor 1000) b'.outs c ≡ file_of b'.outs c
command_unscaled f B = model_plain 8 8 _ _ (built_consistent B) f

-- ==== The room

-- in buffers no shorter than those of the large room no job is refused by 9 or by 11: a refusal is one of the job's
-- own, 1 to 8, or 10, and 10 only where there are more vertices than 1,048,576
pub room_for_every_job : {s : List ℕ} {b b' : Buffers} {q : Refusal}
    → LargeRoom b → Builds s b (Err q) b'
    → (number_of q ≤ 8) ⊎ ((q ≡ TooManyVertices) × (1048576 < vertex_sum (tubes_in s)))
room_for_every_job L B = large_refused _ L _ B

-- so every job that passes checks 1 to 8 and has no more vertices gets its mesh
pub every_job_built : {s : List ℕ} {b b' : Buffers} {r : Result Counts Refusal}
    → LargeRoom b → Passes s → vertex_sum (tubes_in s) ≤ 1048576 → Builds s b r b' → r ≡ Ok (counts_of (tubes_in s))
every_job_built L p v B = large_built _ L _ p v B

-- with room for the longest job no file is refused by 16: a refusal of the reader is one of 12 to 15
pub room_for_every_file : {s out out' : List ℕ} {q : Refusal}
    → large_job ≤ length out → Reads s out (Err q) out' → (12 ≤ number_of q) × (number_of q ≤ 15)
room_for_every_file h R = large_unread _ _ _ h (caused R)

-- and the job of a file that was read is refused by 10 alone, for its number of vertices
pub only_too_many : {s out out' : List ℕ} {n : ℕ} {b b' : Buffers} {q : Refusal}
    → Reads s out (Ok n) out' → LargeRoom b → Builds (take n out') b (Err q) b'
    → (q ≡ TooManyVertices) × (1048576 < vertex_sum (tubes_in (take n out')))
only_too_many R L B = large_too_many _ L _ (passes_by _ _ (buffer_passes R)) B
