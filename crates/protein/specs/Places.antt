-- Where an atom stands, and whether a step between two atoms is too long for one tube. Atoms are counted from 1 here, as in the residue tables, where 0 is none.
use Rattle.std.specs.Prelude.{ℕ, ◌-◌, List, Bool, Float}
use Rattle.std.specs.Float.{binary32, binary64}
use Rattle.std.specs.Float.Ieee.{of_bits, lt}
use Rattle.floats.specs.Floats.{narrowed}
use Rattle.vectors.specs.declared.Vec3.{Vec3}
use Rattle.vectors.specs.Vec.{vec, vsub, vlength, lit}
use Rattle.numbers.specs.Bytes.{u64_at}
use Rattle.protein.specs.Layout.{x_at, y_at, z_at}
use Rattle.protein.specs.declared.Head.{Head}

-- 01, 'Floats': 'f64 to f32 is IEEE 754 nearest-even'
unfoldable pub coordinate_at : List ℕ → ℕ → Float
unfolding narrowed
coordinate_at s at = narrowed binary32 (of_bits binary64 (u64_at s at))

-- 01, 'Job bytes': 'x, y, z as f64 bits'
unfoldable pub place_of : List ℕ → Head → ℕ → Vec3
place_of s h a = vec (coordinate_at s (x_at h (a - 1))) (coordinate_at s (y_at h (a - 1))) (coordinate_at s (z_at h (a - 1)))

-- 01, 'Tubes': 'cut .. where the step is greater than 5.0'
unfoldable pub far : Vec3 → Vec3 → Bool
far p q = lt (lit 0x40A00000) (vlength (vsub q p))

-- the same between atoms a and b, where `place` gives an atom's position
unfoldable pub far_by : (ℕ → Vec3) → ℕ → ℕ → Bool
far_by place a b = far (place a) (place b)
