-- Worked facets, computed from the definitions: that the definitions mean what 02 says shows in their bytes. Assumes nothing.
use Prim.Native.Nat.{ℕ}
use mathlib.Core.List.{List, [], ◌∷◌, ◌++◌}
use mathlib.Core.Path.{◌≡◌, refl}
use lib.Ieee.{nan, to_bits, of_bits, add, sub, mul, div, eq, round}
use Rattle.floats.specs.Floats.{root, nearest_root, floor_root, root_digits}
use Rattle.vectors.specs.declared.Vec3.{Vec3}
use Rattle.vectors.specs.Vec.{vec, lit, vzero, vsub, vcross, vdot, vlength, normalised, vscale}
use Rattle.little.specs.Little.{le16, le32, le_vec}
use Rattle.facets.specs.Facets.{facet_normal, facet_bytes}

-- a float's four bytes where it is 0, 1, and a NaN
abbrev o : List ℕ
o = 0 ∷ 0 ∷ 0 ∷ 0 ∷ []

abbrev i : List ℕ
i = 0 ∷ 0 ∷ 0x80 ∷ 0x3f ∷ []

abbrev n : List ℕ
n = 0 ∷ 0 ∷ 0xc0 ∷ 0x7f ∷ []

abbrev right : Vec3
right = vec (lit 0x3f800000) (lit 0) (lit 0)

abbrev up : Vec3
up = vec (lit 0) (lit 0x3f800000) (lit 0)

-- the triangle of the origin, (1, 0, 0) and (0, 1, 0) has the normal (0, 0, 1)
upright : facet_bytes vzero right up ≡ o ++ o ++ i ++ o ++ o ++ o ++ i ++ o ++ o ++ o ++ i ++ o ++ (0 ∷ 0 ∷ [])
unfolding facet_bytes le_vec le32 le16 facet_normal normalised vcross vsub vscale vlength vdot root nearest_root floor_root root_digits to_bits of_bits add sub mul div eq round
upright = refl

-- 'length 0 gives zeros': two corners are one
no_area : facet_bytes right right up ≡ o ++ o ++ o ++ i ++ o ++ o ++ i ++ o ++ o ++ o ++ i ++ o ++ (0 ∷ 0 ∷ [])
unfolding facet_bytes le_vec le32 le16 facet_normal normalised vcross vsub vscale vlength vdot root nearest_root floor_root root_digits to_bits of_bits add sub mul div eq round
no_area = refl

-- 'a NaN is written 7FC00000', of a corner and of the normal that it spoils
not_a_number : facet_bytes (vec nan (lit 0) (lit 0)) right up ≡ n ++ n ++ n ++ n ++ o ++ o ++ i ++ o ++ o ++ o ++ i ++ o ++ (0 ∷ 0 ∷ [])
unfolding facet_bytes le_vec le32 le16 facet_normal normalised vcross vsub vscale vlength vdot root nearest_root floor_root root_digits to_bits of_bits add sub mul div eq round
not_a_number = refl

-- the first facet of two residues, whose corners stand at bytes 96 to 131 of the 7,284: times 1 / length a normal's 1 is the float below it, 3F7FFFFF
two_residues_lem : facet_bytes vzero (vec (lit 0) (lit 0xbe3504f3) (lit 0xbe3504f3)) (vec (lit 0) (lit 0) (lit 0xbe800000))
    ≡ (0xff ∷ 0xff ∷ 0x7f ∷ 0x3f ∷ []) ++ o ++ o ++ o ++ o ++ o ++ o ++ (0xf3 ∷ 0x04 ∷ 0x35 ∷ 0xbe ∷ []) ++ (0xf3 ∷ 0x04 ∷ 0x35 ∷ 0xbe ∷ [])
    ++ o ++ o ++ (0 ∷ 0 ∷ 0x80 ∷ 0xbe ∷ []) ++ (0 ∷ 0 ∷ [])
unfolding facet_bytes le_vec le32 le16 facet_normal normalised vcross vsub vscale vlength vdot root nearest_root floor_root root_digits to_bits of_bits add sub mul div eq round
two_residues_lem = refl
