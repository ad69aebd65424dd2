-- What write_stl answers, and what it leaves in the lent bytes, on every input: 02 §4, over p sides and d divisions (01 has 8 and 8). 'Write an accepted
-- mesh, triangles in order, header all zero ..' Which buffers are consistent is consistency/specs/Consistent, the bytes of a file facets/specs/Facets.
use Rattle.std.specs.Prelude.{ℕ, ◌≡◌, List, [], ◌∷◌, cond, not, length, ltb, Err, Ok, Result}
use Rattle.lists.specs.Put.{put}
use Rattle.job.specs.Refusals.{size_numbers}
use Rattle.job.specs.declared.Refusal.{Refusal}
use Rattle.job.specs.declared.Refusal.TheVariants.{Inconsistent, NoStlRoom}
use Rattle.buffers.specs.declared.Counts.{Counts}
use Rattle.buffers.specs.Outs.{Outs}
use Rattle.consistency.specs.Consistent.{consistent}
use Rattle.facets.specs.Facets.{stl_bytes, stl_size}

-- the file of the mesh that the buffers o hold; its size is `stl_size` of its triangles
unfoldable pub file_of : Outs → Counts → List ℕ
file_of o c = stl_bytes o.positions o.triangles c.triangles

-- THE answer: 'the writer gives 17 mesh buffers inconsistent, then 18 no room, with the size'
unfoldable pub write_answer : ℕ → ℕ → Outs → Counts → ℕ → Result ℕ Refusal
write_answer p d o c room =
    cond (not (consistent p d o c)) (Err Inconsistent)
    (cond (ltb room (stl_size c.triangles)) (Err (NoStlRoom (stl_size c.triangles)))
    (Ok (stl_size c.triangles)))

-- 'No output buffer changes under a refusal'; 'Places past what a call writes stay as they were'
abbrev pub write_by : Result ℕ Refusal → Outs → Counts → List ℕ → List ℕ
write_by (Err r) o c out = out
write_by (Ok n) o c out = put out 0 (file_of o c)

-- THE final contents of the lent bytes, which held out
unfoldable pub bytes_after : ℕ → ℕ → Outs → Counts → List ℕ → List ℕ
bytes_after p d o c out = write_by (write_answer p d o c (length out)) o c out

-- THE promise of write_stl: of the mesh buffers o, the counts c, and lent bytes that held out, it answers r and leaves out'; the mesh buffers are read
pub record WritesStl (p d : ℕ) (o : Outs) (c : Counts) (out : List ℕ) (r : Result ℕ Refusal) (out' : List ℕ) : Type 0 where
  -- its number and values are those of the answer
  pub answer : size_numbers r ≡ size_numbers (write_answer p d o c (length out))
  pub bytes : out' ≡ bytes_after p d o c out
