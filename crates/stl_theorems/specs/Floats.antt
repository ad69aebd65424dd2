-- What the theorems say of the floats, the words and the facets of an STL file.
use Rattle.std.specs.Prelude.{ℕ, ◌+◌, ◌*◌, List, ◌++◌, T, get_or, Float}
use Rattle.std.specs.Float.{nan, binary32}
use Rattle.std.specs.Float.Ieee.{fits}
use Rattle.lists.specs.Put.{upto}
use Rattle.vectors.specs.Vec.{floats}
use Rattle.little.specs.Little.{le32_at}
use Rattle.edges.specs.Tube.{triangles}
use Rattle.buffers.specs.Outs.{Outs}
use Rattle.consistency.specs.Consistent.{residues_at, first_triangle_at, corners_from}
use Rattle.facets.specs.Facets.{corner_at, facet_normal, facet_place, facets_of}

-- a list of f32: binary32 holds each float of it, as it does of every slice of f32
abbrev pub AllF32 : List Float → Type 0
AllF32 l = (i : ℕ) → T (fits binary32 (get_or l i nan))

-- the corners of the first t triangles, nine floats each, as they stand in the positions
unfoldable pub corner_floats : List Float → List ℕ → ℕ → List Float
corner_floats positions corners t =
    upto (λ (i : ℕ). floats (corner_at positions corners (3 * i)) ++ (floats (corner_at positions corners (3 * i + 1)) ++ floats (corner_at positions corners (3 * i + 2)))) t

-- their facet normals, three floats each
unfoldable pub normal_floats : List Float → List ℕ → ℕ → List Float
normal_floats positions corners t =
    upto (λ (i : ℕ). floats (facet_normal (corner_at positions corners (3 * i)) (corner_at positions corners (3 * i + 1)) (corner_at positions corners (3 * i + 2)))) t

-- word j of facet i of a file, as its bytes have it: 0 to 2 are its normal's, 3 to 11 its corners'
abbrev pub word_in : List ℕ → ℕ → ℕ → ℕ
word_in s i j = le32_at s (facet_place i + 4 * j)

-- tube i's part of the triangle buffer, by its record: so many corners from three times its first triangle on
abbrev pub tube_corners : ℕ → ℕ → Outs → ℕ → List ℕ
tube_corners p d o i = corners_from p d o.triangles (residues_at o.tubes i) (first_triangle_at o.tubes i)

-- its facets
unfoldable pub tube_facets : ℕ → ℕ → Outs → ℕ → List ℕ
tube_facets p d o i = facets_of o.positions (tube_corners p d o i) (triangles p d (residues_at o.tubes i))
