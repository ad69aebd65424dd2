-- Lists of values, as bytes.
use Rattle.std.specs.Prelude.{◌≡◌, refl, ℕ, List, [], ◌∷◌, ◌++◌, length, Float}
use Rattle.std.specs.Float.{binary32}
use Rattle.std.specs.Float.Ieee.{to_bits}
use Rattle.numbers.specs.Bytes.{u16, u32}

-- the bytes of all values of a list, one value after the other; f gives those of one
unfoldable pub all_bytes : {A : Type 0} → (A → List ℕ) → List A → List ℕ
all_bytes f [] = []
all_bytes f (x ∷ l) = f x ++ all_bytes f l

-- a word has four
pub word_long : (n : ℕ) → length (u32 n) ≡ 4
unfolding u16 u32
word_long n = refl

-- a float's bytes are those of its bits, of which one pattern stands for every NaN
abbrev pub float_bytes : Float → List ℕ
float_bytes x = u32 (to_bits binary32 x)
