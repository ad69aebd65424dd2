-- WHAT A PRINT SHOP MAY RELY ON (02 §4), as theorems over the promises of build (`Builds`), write_stl (`WritesStl`) and
-- read_stl (`ReadsStl`). The other words are in specs/Floats, stl_writer/specs/Call, stl_reader/specs/Call and
-- facets/specs/Facets. Assumes nothing. docs/PROOFS.md quotes each statement, with words.
use Rattle.std.specs.Prelude.{Err, Ok, Result, ℕ}
use Prim.Native.Nat.{ℕ, ◌+◌, ◌*◌, ◌<◌, ◌≤◌}
use mathlib.Core.Bool.{true}
use mathlib.Core.List.{List, ◌++◌}
use mathlib.Core.Path.{◌≡◌}
use lib.ListN.{length, get_or, take, drop}
use lib.Ieee.{Float, nan, binary32, to_bits}
use Rattle.lists.specs.Put.{upto}
use Rattle.job.specs.declared.Refusal.{Refusal}
use Rattle.job.specs.declared.Refusal.TheVariants.{NoStlRoom}
use Rattle.buffers.specs.declared.Counts.{Counts}
use Rattle.buffers.specs.Outs.{Outs}
use Rattle.room.specs.Room.{Buffers}
use Rattle.std.specs.Prelude.{Ok}
use Rattle.promises.specs.Calls.{Builds}
use Rattle.consistency.specs.Consistent.{consistent}
use Rattle.facets.specs.Facets.{facets_of, stl_head, stl_size}
use Rattle.facets.proofs.Laws.{facets_join}
use Rattle.stl_writer.specs.Call.{file_of, WritesStl}
use Rattle.stl_reader.specs.Call.{Lists, lists, ListRoom, ReadsStl}
use Rattle.stl_theorems.specs.Floats.{AllF32, corner_floats, normal_floats, word_in, tube_facets}
use Rattle.stl_theorems.proofs.Built.{consistent_built}
use Rattle.stl_theorems.proofs.Written.{written, short, by_tubes}
use Rattle.stl_theorems.proofs.Again.{listed_again, only_room, words_again}

-- ==== Every mesh that build hands out is written

-- its buffers are consistent, with the K, V and T that build answered
pub built_consistent : {s : List ℕ} {b b' : Buffers} {c : Counts}
    → Builds s b (Ok c) b' → consistent 8 8 b'.outs c ≡ true
built_consistent B = consistent_built B

-- so with 84 + 50T bytes it is always written, whole and at the front
pub built_written : {s out out' : List ℕ} {b b' : Buffers} {c : Counts} {r : Result ℕ Refusal}
    → Builds s b (Ok c) b' → stl_size c.triangles ≤ length out → WritesStl 8 8 b'.outs c out r out'
    → (r ≡ Ok (stl_size c.triangles)) × (take (stl_size c.triangles) out' ≡ file_of b'.outs c)
built_written B h W = written (consistent_built B) h W

-- and with fewer it is refused by 18, which carries that size
pub built_short : {s out out' : List ℕ} {b b' : Buffers} {c : Counts} {r : Result ℕ Refusal}
    → Builds s b (Ok c) b' → length out < stl_size c.triangles → WritesStl 8 8 b'.outs c out r out'
    → r ≡ Err (NoStlRoom (stl_size c.triangles))
built_short B h W = short (consistent_built B) h W

-- ==== 'triangles in order': no facet of any tube is left out

-- a written file is its head and the facets of the tubes, one after the other
pub tubes_make_file : {p d n : ℕ} {o : Outs} {c : Counts} {out out' : List ℕ} → WritesStl p d o c out (Ok n) out'
    → take n out' ≡ stl_head c.triangles ++ upto (tube_facets p d o) c.tubes
tubes_make_file W = by_tubes W

-- so are those of any two parts of a triangle list: a program may write the file block by block
pub blocks_join : (positions : List Float) (l r : List ℕ) (t k : ℕ) → length l ≡ 3 * t
    → facets_of positions (l ++ r) (t + k) ≡ facets_of positions l t ++ facets_of positions r k
blocks_join = facets_join

-- ==== 'A reader lists 9T corner floats and 3T normal floats in lent buffers, bit for bit as we wrote them'

-- what was written is read back: the floats of the corners, as they stand in the positions, and of the facet normals
pub read_back : {n : ℕ} {o : Outs} {c : Counts} {out out' : List ℕ} {l l' : Lists} {r : Result ℕ Refusal}
    → AllF32 o.positions → WritesStl 8 8 o c out (Ok n) out' → ListRoom c.triangles l
    → ReadsStl (take n out') l r l'
    → (r ≡ Ok c.triangles)
    × (l' ≡ lists (corner_floats o.positions o.triangles c.triangles ++ drop (9 * c.triangles) l.corners)
    (normal_floats o.positions o.triangles c.triangles ++ drop (3 * c.triangles) l.normals))
read_back f W R L = listed_again W f R L

-- bit for bit: float j of triangle i's normal, and of its nine corner floats, has the bits of its word in the file
pub read_back_bits : {n i j : ℕ} {o : Outs} {c : Counts} {out out' : List ℕ} {l l' : Lists} {r : Result ℕ Refusal}
    → AllF32 o.positions → WritesStl 8 8 o c out (Ok n) out' → ListRoom c.triangles l
    → ReadsStl (take n out') l r l'
    → i < c.triangles
    → (j < 3 → to_bits binary32 (get_or l'.normals (3 * i + j) nan) ≡ word_in (take n out') i j)
    × (j < 9 → to_bits binary32 (get_or l'.corners (9 * i + j) nan) ≡ word_in (take n out') i (3 + j))
read_back_bits f W R L h = words_again W f R L h

-- and the reader refuses no file of ours but for room
pub ours_only_for_room : {n : ℕ} {o : Outs} {c : Counts} {out out' : List ℕ} {l l' : Lists} {q : Refusal}
    → WritesStl 8 8 o c out (Ok n) out' → ReadsStl (take n out') l (Err q) l' → q ≡ NoStlRoom c.triangles
ours_only_for_room W L = only_room W L
