-- Vectors of three f32, and flat lists of them. 01: 'Every operation is f32 and rounds once, in the order the Rust writes it'
use Rattle.std.specs.Prelude.{cond, List, [], ◌∷◌, ℕ, ◌+◌, ◌*◌, get_or, Float, Option, Some, None}
use Rattle.std.specs.Float.{nan, binary32}
use Rattle.std.specs.Float.Ieee.{of_bits, add, sub, mul, div, eq}
use Rattle.floats.specs.Floats.{root}
use Rattle.lists.specs.Put.{upto}
use Rattle.vectors.specs.declared.Vec3.{Vec3}

abbrev pub f+ : Float → Float → Float
f+ a b = add binary32 a b

abbrev pub f_ : Float → Float → Float
f_ a b = sub binary32 a b

abbrev pub f* : Float → Float → Float
f* a b = mul binary32 a b

abbrev pub f/ : Float → Float → Float
f/ a b = div binary32 a b

-- a literal, by its bits
abbrev pub lit : ℕ → Float
lit b = of_bits binary32 b

abbrev pub one : Float
one = lit 0x3f800000

abbrev pub vec : Float → Float → Float → Vec3
vec x y z = record { x = x; y = y; z = z }

abbrev pub vzero : Vec3
vzero = vec (lit 0) (lit 0) (lit 0)

-- what an array of vectors has past its end
abbrev pub vpast : Vec3
vpast = vec nan nan nan

unfoldable pub vadd : Vec3 → Vec3 → Vec3
vadd a b = vec (f+ a.x b.x) (f+ a.y b.y) (f+ a.z b.z)

unfoldable pub vsub : Vec3 → Vec3 → Vec3
vsub a b = vec (f_ a.x b.x) (f_ a.y b.y) (f_ a.z b.z)

unfoldable pub vscale : Vec3 → Float → Vec3
vscale a k = vec (f* a.x k) (f* a.y k) (f* a.z k)

-- 01: 'Dot: (xx + yy) + zz'
unfoldable pub vdot : Vec3 → Vec3 → Float
vdot a b = f+ (f+ (f* a.x b.x) (f* a.y b.y)) (f* a.z b.z)

-- 01: 'Cross of a and b: (ay bz - az by, az bx - ax bz, ax by - ay bx)'
unfoldable pub vcross : Vec3 → Vec3 → Vec3
vcross a b =
    vec (f_ (f* a.y b.z) (f* a.z b.y))
    (f_ (f* a.z b.x) (f* a.x b.z))
    (f_ (f* a.x b.y) (f* a.y b.x))

-- 01: 'Length: square root of (xx + yy) + zz'
unfoldable pub vlength : Vec3 → Float
vlength a = root binary32 (vdot a a)

-- 02 §6: 'Normalising a vector of length 0 must say that there is no direction', for the length l as it is computed, so that squares that vanish count
abbrev pub direction_by : Vec3 → Float → Option Vec3
direction_by a l = cond (eq l (lit 0)) None (Some (vscale a (f/ one l)))

unfoldable pub direction_of : Vec3 → Option Vec3
direction_of a = direction_by a (vlength a)

-- 01: 'Normalising: components times (1 / length); length 0 gives the zero vector', for the length l. 02 §6: 'every other user answers as now'
abbrev pub normalised_by : Vec3 → Float → Vec3
normalised_by a l = cond (eq l (lit 0)) vzero (vscale a (f/ one l))

unfoldable pub normalised : Vec3 → Vec3
normalised a = normalised_by a (vlength a)

-- 01: 'A vector is one record of three f32 fields': its floats in a buffer, and vector i of a buffer
abbrev pub floats : Vec3 → List Float
floats v = v.x ∷ v.y ∷ v.z ∷ []

unfoldable pub vec_at : List Float → ℕ → Vec3
vec_at l i = vec (get_or l (3 * i) nan) (get_or l (3 * i + 1) nan) (get_or l (3 * i + 2) nan)

-- the floats of n vectors, of which vector i is v i
abbrev pub floats_of : (ℕ → Vec3) → ℕ → List Float
floats_of v n = upto (λ (i : ℕ). floats (v i)) n

-- 01: 'arrays of eight vectors', as floats, one vector after the other
unfoldable pub eight : List Vec3 → List Float
eight ps = floats_of (λ (k : ℕ). get_or ps k vpast) 8
