-- Worked cases of consistency, computed from the definition: two tubes of three sides, one division and two residues, so 8 vertices and 12 triangles each
use Prim.Native.Nat.{ℕ}
use mathlib.Core.Bool.{Bool, true, false}
use mathlib.Core.List.{List, [], ◌∷◌}
use mathlib.Core.Path.{◌≡◌, refl}
use lib.ListN.{set}
use Rattle.lists.specs.Put.{upto}
use Rattle.lists.specs.Search.{every}
use Rattle.edges.specs.Tube.{vertices, triangles, vertex_total, triangle_total, ring, next, cap, band, stack, tube, mesh}
use Rattle.buffers.specs.Outs.{sizes, tight}
use Rattle.consistency.specs.Consistent.{residues_to, vertex_start, triangle_start, record_fits, corners_in, own_corners, tube_fits, tubes_fit, consistent_in}

-- a helix from residue 3 on and a sheet from residue 9 on
abbrev words : List ℕ
words = 1 ∷ 3 ∷ 2 ∷ 0 ∷ 0 ∷ 2 ∷ 9 ∷ 2 ∷ 8 ∷ 12 ∷ []

abbrev corners : List ℕ
corners = mesh 3 1 0 (2 ∷ 2 ∷ [])

-- buffers that are just long enough for 16 vertices, with these words and corners
abbrev fits : ℕ → List ℕ → List ℕ → Bool
fits v w l = consistent_in 3 1 (sizes 48 48 16 72 10 12) w l (record { tubes = 2; vertices = v; triangles = 24 })

-- which residue is first does not matter; a kind of 3 does, a start that is not the sum, a corner of the next tube, a corner that is no vertex, an end before V
pub cases :
    (fits 16 words corners ≡ true) × (fits 16 (set words 1 77) corners ≡ true) × (fits 16 (set words 5 3) corners ≡ false)
    × (fits 16 (set words 8 7) corners ≡ false) × (fits 16 words (set corners 0 8) ≡ false) × (fits 16 words (set corners 71 16) ≡ false)
    × (fits 15 words corners ≡ false)
unfolding consistent_in tight tubes_fit every tube_fits record_fits own_corners corners_in vertex_start triangle_start residues_to upto vertices triangles vertex_total triangle_total mesh tube stack cap band ring next
cases = (refl, refl, refl, refl, refl, refl, refl)
