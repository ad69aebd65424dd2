-- The mesh of a list of tubes: what each tube gives to each of the six buffers, and these one after the other, with running starts.
use Rattle.std.specs.Prelude.{ℕ, zero, suc, ◌+◌, List, [], ◌∷◌, ◌++◌, map, cond, length, get_or, eqb, Float}
use Rattle.vectors.specs.declared.Vec3.{Vec3}
use Rattle.vectors.specs.Vec.{vzero, floats_of}
use Rattle.shape.specs.declared.Kind.{Kind}
use Rattle.shape.specs.declared.Kind.TheVariants.{Coil, Helix, Sheet}
use Rattle.shape.specs.declared.Oxygen.{Oxygen}
use Rattle.shape.specs.declared.Oxygen.TheVariants.{At, Missing}
use Rattle.skin.specs.Tube.{positions_of, normals_of, tags_of}
use Rattle.boxes.specs.Box.{box_of}
use Rattle.edges.specs.Tube.{vertex_count, triangle_count, tube}
use Rattle.tubes.specs.Tubes.{Tube, alpha_of, oxygen_of}
use Rattle.protein.specs.Protein.{Protein}

-- ---- a tube: its size, its kind, its atoms

-- 'first residue, residues n'
abbrev pub first_of : Tube → ℕ
first_of u = get_or u.residues 0 0

abbrev pub size_of : Tube → ℕ
size_of u = length u.residues

-- 'kind (0 coil, 1 helix, 2 sheet)'; no tube of an accepted job has a kind above 2 (`tube_kind` of tube_theorems)
unfoldable pub kind_of : ℕ → Kind
kind_of zero = Coil
kind_of (suc zero) = Helix
kind_of (suc (suc k)) = Sheet

-- the C-alphas of its residues, and their oxygens, as atoms counted from 1; 0 where an oxygen is missing
unfoldable pub alphas_of : Protein → Tube → List ℕ
alphas_of P u = map (alpha_of P.job u.source) u.residues

unfoldable pub oxygens_of : Protein → Tube → List ℕ
oxygens_of P u = map (oxygen_of P.job u.source) u.residues

-- the positions of atoms, three floats each; zeros for no atom
unfoldable pub spot_of : (ℕ → Vec3) → ℕ → Vec3
spot_of place zero = vzero
spot_of place (suc a) = place (suc a)

unfoldable pub spots : (ℕ → Vec3) → List ℕ → List Float
spots place atoms = floats_of (λ (i : ℕ). spot_of place (get_or atoms i 0)) (length atoms)

-- 'An oxygen is either a position of three floats or missing'
unfoldable pub air_at : (ℕ → Vec3) → List ℕ → ℕ → Oxygen
air_at place atoms i = cond (eqb (get_or atoms i 0) 0) Missing (At (place (get_or atoms i 0)).x (place (get_or atoms i 0)).y (place (get_or atoms i 0)).z)

-- ---- what a tube gives to each buffer

-- 'Shape of a tube': of its kind, the positions of its C-alphas, and its oxygens
unfoldable pub positions_by : (ℕ → Vec3) → ℕ → List ℕ → List ℕ → List Float
positions_by place kind alphas oxygens = positions_of (kind_of kind) (spots place alphas) (air_at place oxygens) (length alphas)

unfoldable pub normals_by : (ℕ → Vec3) → ℕ → List ℕ → List ℕ → List Float
normals_by place kind alphas oxygens = normals_of (kind_of kind) (spots place alphas) (air_at place oxygens) (length alphas)

-- 02 §2: 'A box now takes the vertices of its tube, caps included, where document 01 takes C-alphas; all else about it stays'
unfoldable pub box_by : (ℕ → Vec3) → ℕ → List ℕ → List ℕ → List Float
box_by place kind alphas oxygens = box_of (positions_by place kind alphas oxygens)

unfoldable pub tube_positions : Protein → Tube → List Float
tube_positions P u = positions_by P.place u.kind (alphas_of P u) (oxygens_of P u)

unfoldable pub tube_normals : Protein → Tube → List Float
tube_normals P u = normals_by P.place u.kind (alphas_of P u) (oxygens_of P u)

unfoldable pub tube_box : Protein → Tube → List Float
tube_box P u = box_by P.place u.kind (alphas_of P u) (oxygens_of P u)

-- 'Tag: first residue + i ..'
unfoldable pub tube_tags : Tube → List ℕ
tube_tags u = tags_of (first_of u) (size_of u)

-- the triangles, whose corners are counted from the tube's first vertex v
unfoldable pub tube_triangles : ℕ → Tube → List ℕ
tube_triangles v u = tube 8 8 v (size_of u)

-- 'tubes 5K u32 (kind, first residue, residues n, first vertex, first triangle)'
unfoldable pub tube_words : ℕ → ℕ → Tube → List ℕ
tube_words v t u = u.kind ∷ first_of u ∷ size_of u ∷ v ∷ t ∷ []

-- ---- a mesh: its sums, and its lists. Starts are counted from vertex v and triangle t on

-- V and T ('V vertices, T triangles, K tubes'; K is the list's length)
unfoldable pub vertex_sum : List Tube → ℕ
vertex_sum [] = 0
vertex_sum (u ∷ us) = vertex_count (size_of u) + vertex_sum us

unfoldable pub triangle_sum : List Tube → ℕ
triangle_sum [] = 0
triangle_sum (u ∷ us) = triangle_count (size_of u) + triangle_sum us

unfoldable pub mesh_positions : Protein → List Tube → List Float
mesh_positions P [] = []
mesh_positions P (u ∷ us) = tube_positions P u ++ mesh_positions P us

unfoldable pub mesh_normals : Protein → List Tube → List Float
mesh_normals P [] = []
mesh_normals P (u ∷ us) = tube_normals P u ++ mesh_normals P us

unfoldable pub mesh_tags : List Tube → List ℕ
mesh_tags [] = []
mesh_tags (u ∷ us) = tube_tags u ++ mesh_tags us

unfoldable pub mesh_triangles : ℕ → List Tube → List ℕ
mesh_triangles v [] = []
mesh_triangles v (u ∷ us) = tube_triangles v u ++ mesh_triangles (v + vertex_count (size_of u)) us

unfoldable pub mesh_words : ℕ → ℕ → List Tube → List ℕ
mesh_words v t [] = []
mesh_words v t (u ∷ us) = tube_words v t u ++ mesh_words (v + vertex_count (size_of u)) (t + triangle_count (size_of u)) us

unfoldable pub mesh_boxes : Protein → List Tube → List Float
mesh_boxes P [] = []
mesh_boxes P (u ∷ us) = tube_box P u ++ mesh_boxes P us
