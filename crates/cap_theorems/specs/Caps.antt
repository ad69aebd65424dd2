-- What the theorems about end caps say (02 §6): of the numbers that stand in the buffers after build, and of the tubes that they are of.
use Rattle.std.specs.Prelude.{ℕ, ◌-◌, ◌*◌, Bool, true, false, List, ◌⊎◌, ◌≡◌, Float}
use Rattle.std.specs.Float.{nan, inf, fin}
use Rattle.std.specs.Float.Ieee.{eq}
use Rattle.vectors.specs.declared.Vec3.{Vec3}
use Rattle.vectors.specs.Vec.{lit, vec_at, floats, normalised}
use Rattle.edges.specs.Tube.{start_centre, end_centre}
use Rattle.curve.specs.Residues.{points_of, guides_of}
use Rattle.curve.specs.Samples.{frame_at}
use Rattle.caps.specs.Caps.{chord}
use Rattle.skin.specs.Tube.{ordered, ring_normals, start_normal}
use Rattle.protein.specs.Protein.{Protein}
use Rattle.tubes.specs.Tubes.{Tube}
use Rattle.mesh.specs.Mesh.{size_of, kind_of, alphas_of, oxygens_of, spots, air_at}
use Rattle.buffers.specs.Outs.{Outs}
use Rattle.promises.specs.Boxes.{residues_of, first_vertex}

-- ---- in the buffers

-- 01: 'Vertices: ring, start centre, later rings, end centre': the centres of the two caps of tube k, by its record; of n residues there are 8(n-1) later rings
abbrev pub start_cap : Outs → ℕ → ℕ
start_cap o k = start_centre 8 (first_vertex o k)

abbrev pub end_cap : Outs → ℕ → ℕ
end_cap o k = end_centre 8 (first_vertex o k) (8 * (residues_of o k - 1))

-- the normal of vertex j
abbrev pub normal_at : Outs → ℕ → Vec3
normal_at o j = vec_at o.normals j

-- neither a NaN nor an infinity
abbrev pub is_finite : Float → Bool
is_finite nan = false
is_finite (inf s) = false
is_finite (fin s m e) = true

-- a normal that does not shade black: three finite components, and one of them is not 0, of either sign
pub record Lit (v : Vec3) : Type 0 where
  pub finite_x : is_finite v.x ≡ true
  pub finite_y : is_finite v.y ≡ true
  pub finite_z : is_finite v.z ≡ true
  pub not_zero : (eq v.x (lit 0) ≡ false) ⊎ ((eq v.y (lit 0) ≡ false) ⊎ (eq v.z (lit 0) ≡ false))

-- ---- of tube u of a protein: its spline points and its guides,
unfoldable pub points_in : Protein → Tube → List Float
points_in P u = points_of (kind_of u.kind) (spots P.place (alphas_of P u)) (size_of u)

unfoldable pub guides_in : Protein → Tube → List Float
guides_in P u = guides_of (kind_of u.kind) (spots P.place (alphas_of P u)) (air_at P.place (oxygens_of P u)) (size_of u)

-- the chord of the last two spline points,
abbrev pub last_chord : Protein → Tube → Vec3
last_chord P u = chord (points_in P u) (size_of u)

-- 'the last sample's tangent',
abbrev pub last_tangent : Protein → Tube → Vec3
last_tangent P u = (frame_at (points_in P u) (guides_in P u) (size_of u) (8 * (size_of u - 1))).tangent

-- its normals, where that of the end centre is e: 01's order of vertices,
unfoldable pub normals_to : Protein → Tube → Vec3 → List Float
normals_to P u e =
    ordered (size_of u) (ring_normals (kind_of u.kind) (points_in P u) (guides_in P u) (size_of u))
    (floats (start_normal (points_in P u) (guides_in P u) (size_of u))) (floats e)

-- and as the Rust has them: 01's 'end cap: the last normalised chord of the spline points', with 'length 0 gives the zero vector'
abbrev pub rust_normals : Protein → Tube → List Float
rust_normals P u = normals_to P u (normalised (last_chord P u))
