-- What the theorems of proofs/Demands say of jobs, buffers and meshes, in the words of the demands.
use Rattle.std.specs.Prelude.{ℕ, suc, ◌+◌, ◌-◌, ◌*◌, ◌<◌, ◌≤◌, List, ◌∷◌, ◌++◌, ◌⊎◌, ◌≡◌, length, take, drop, Ok}
use Rattle.edges.specs.Sound.{Sound}
use Rattle.protein.specs.Layout.{head_of}
use Rattle.protein.specs.Protein.{Protein, protein_of}
use Rattle.job.specs.Check.{check}
use Rattle.tubes.specs.Tubes.{Tube}
use Rattle.mesh.specs.Mesh.{size_of, tube_positions, tube_normals, tube_tags, tube_triangles, tube_words, tube_box, vertex_sum, triangle_sum, mesh_positions, mesh_normals, mesh_tags, mesh_triangles, mesh_words, mesh_boxes}
use Rattle.buffers.specs.Outs.{Outs, Room}
use Rattle.buffers.specs.declared.Counts.{Counts}
use Rattle.room.specs.Room.{Scratch, Buffers}
use Rattle.promises.specs.Calls.{job_tubes}

-- ---- of a job's bytes

-- what they say of a protein, and 01's list of its tubes
abbrev pub protein_in : List ℕ → Protein
protein_in s = protein_of s (head_of s)

abbrev pub tubes_in : List ℕ → List Tube
tubes_in s = job_tubes s (head_of s)

-- 'past every check before 9'
abbrev pub Passes : List ℕ → Type 0
Passes s = check s ≡ Ok (head_of s)

-- 'with enough scratch'
pub record Enough (s : List ℕ) (c : Scratch) : Type 0 where
  pub words : 8 * (head_of s).residues ≤ length c.words
  pub floats : 32 * (head_of s).residues ≤ length c.floats

-- 'With enough scratch, a job past every check before 9 and within the vertex limit'
pub record Buildable (s : List ℕ) (c : Scratch) : Type 0 where
  pub passes : Passes s
  pub scratch : Enough s c
  pub limit : vertex_sum (tubes_in s) ≤ 1048576

-- ---- of buffers

-- 'some output buffer is shorter than its mesh needs'
abbrev pub Shorter : Outs → Counts → Type 0
Shorter o c =
    (length o.positions < 3 * c.vertices)
    ⊎ ((length o.normals < 3 * c.vertices)
    ⊎ ((length o.tags < c.vertices)
    ⊎ ((length o.triangles < 3 * c.triangles)
    ⊎ ((length o.tubes < 5 * c.tubes)
    ⊎ (length o.boxes < 6 * c.tubes)))))

-- no output buffer is: there is room for a mesh of the counts c
abbrev pub RoomFor : Outs → Counts → Type 0
RoomFor o c = Room c.tubes c.vertices c.triangles o

-- scratch no shorter, and 'any buffers no shorter'
pub record NoLess (c d : Scratch) : Type 0 where
  pub words : length c.words ≤ length d.words
  pub floats : length c.floats ≤ length d.floats

pub record NoShorter (b d : Buffers) : Type 0 where
  pub positions : length b.outs.positions ≤ length d.outs.positions
  pub normals : length b.outs.normals ≤ length d.outs.normals
  pub tags : length b.outs.tags ≤ length d.outs.tags
  pub triangles : length b.outs.triangles ≤ length d.outs.triangles
  pub tubes : length b.outs.tubes ≤ length d.outs.tubes
  pub boxes : length b.outs.boxes ≤ length d.outs.boxes
  pub scratch : NoLess b.scratch d.scratch

-- ---- of meshes

-- each of six buffers, which held o, holds its list of the tubes us at its front, and its other places are as they were
pub record HoldsMesh (P : Protein) (us : List Tube) (o o' : Outs) : Type 0 where
  pub positions : o'.positions ≡ mesh_positions P us ++ drop (3 * vertex_sum us) o.positions
  pub normals : o'.normals ≡ mesh_normals P us ++ drop (3 * vertex_sum us) o.normals
  pub tags : o'.tags ≡ mesh_tags us ++ drop (vertex_sum us) o.tags
  pub triangles : o'.triangles ≡ mesh_triangles 0 us ++ drop (3 * triangle_sum us) o.triangles
  pub tubes : o'.tubes ≡ mesh_words 0 0 us ++ drop (5 * length us) o.tubes
  pub boxes : o'.boxes ≡ mesh_boxes P us ++ drop (6 * length us) o.boxes

-- the places that a mesh of the counts c takes hold the same in two sets of buffers
pub record SameMesh (c : Counts) (o p : Outs) : Type 0 where
  pub positions : take (3 * c.vertices) o.positions ≡ take (3 * c.vertices) p.positions
  pub normals : take (3 * c.vertices) o.normals ≡ take (3 * c.vertices) p.normals
  pub tags : take c.vertices o.tags ≡ take c.vertices p.tags
  pub triangles : take (3 * c.triangles) o.triangles ≡ take (3 * c.triangles) p.triangles
  pub tubes : take (5 * c.tubes) o.tubes ≡ take (5 * c.tubes) p.tubes
  pub boxes : take (6 * c.tubes) o.boxes ≡ take (6 * c.tubes) p.boxes

-- u is tube k of a list
abbrev pub TubeAt : List Tube → ℕ → Tube → Type 0
TubeAt us k u = drop k us ≡ u ∷ drop (suc k) us

-- the n places of a buffer from place i on hold x
pub record Stands {A : Type 0} (l : List A) (i n : ℕ) (x : List A) : Type 0 where
  pub long : length x ≡ n
  pub there : take n (drop i l) ≡ x

-- 64n-54 and 128n-112
abbrev pub vertices_for : ℕ → ℕ
vertices_for n = 64 * n - 54

abbrev pub vertices_of : Tube → ℕ
vertices_of u = vertices_for (size_of u)

abbrev pub triangles_of : Tube → ℕ
triangles_of u = 128 * size_of u - 112

-- tube u of a protein as tube k of a mesh in the buffers o, with v vertices and t triangles before it: its part of each buffer, so long; its triangles name
-- only its own vertices, and are closed
pub record TubeStands (P : Protein) (u : Tube) (k v t : ℕ) (o : Outs) : Type 0 where
  pub two : 2 ≤ size_of u
  pub positions : Stands o.positions (3 * v) (3 * vertices_of u) (tube_positions P u)
  pub normals : Stands o.normals (3 * v) (3 * vertices_of u) (tube_normals P u)
  pub tags : Stands o.tags v (vertices_of u) (tube_tags u)
  pub triangles : Stands o.triangles (3 * t) (3 * triangles_of u) (tube_triangles v u)
  pub words : Stands o.tubes (5 * k) 5 (tube_words v t u)
  pub box : Stands o.boxes (6 * k) 6 (tube_box P u)
  pub closed : Sound v (v + vertices_of u) (triangles_of u) (tube_triangles v u)
