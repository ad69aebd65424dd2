-- Words and floats in bytes, the lowest byte first, as binary STL has them (02 §4: 'little-endian'): written, and read from a list.
use Rattle.std.specs.Prelude.{ℕ, ◌+◌, ◌*◌, ◌/◌, ◌%◌, List, [], ◌∷◌, ◌++◌, Float}
use Rattle.std.specs.Float.{binary32}
use Rattle.std.specs.Float.Ieee.{to_bits, of_bits}
use Rattle.numbers.specs.Bytes.{u8_at}
use Rattle.vectors.specs.declared.Vec3.{Vec3}
use Rattle.vectors.specs.Vec.{vec}

-- two bytes from place i on, the low one first, and four
unfoldable pub le16_at : List ℕ → ℕ → ℕ
le16_at s i = u8_at s i + u8_at s (i + 1) * 256

unfoldable pub le32_at : List ℕ → ℕ → ℕ
le32_at s i = le16_at s i + le16_at s (i + 2) * 65536

-- a number as two bytes, the low one first, and as four: what `le32_at` reads back (`le32_back` of proofs/Laws)
unfoldable pub le16 : ℕ → List ℕ
le16 n = n % 256 ∷ n / 256 % 256 ∷ []

unfoldable pub le32 : ℕ → List ℕ
le32 n = le16 n ++ le16 (n / 65536)

-- a float by its bits: 'a NaN is written 7FC00000', which are the bits of the one NaN that the logic has
abbrev pub le_float : Float → List ℕ
le_float x = le32 (to_bits binary32 x)

abbrev pub le_float_at : List ℕ → ℕ → Float
le_float_at s i = of_bits binary32 (le32_at s i)

-- a vector's three floats: twelve bytes
unfoldable pub le_vec : Vec3 → List ℕ
le_vec v = le_float v.x ++ (le_float v.y ++ le_float v.z)

unfoldable pub le_vec_at : List ℕ → ℕ → Vec3
le_vec_at s i = vec (le_float_at s i) (le_float_at s (i + 4)) (le_float_at s (i + 8))
