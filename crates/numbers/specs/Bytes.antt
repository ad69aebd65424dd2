-- Numbers in bytes, the highest byte first (01, 'Job bytes': 'Big-endian'): read from a list, and written.
use Rattle.std.specs.Prelude.{ℕ, ◌+◌, ◌*◌, ◌/◌, ◌%◌, List, [], ◌∷◌, ◌++◌, get_or}

-- the byte at place i
abbrev pub u8_at : List ℕ → ℕ → ℕ
u8_at s i = get_or s i 0

-- two bytes from place i on, the high one first
unfoldable pub u16_at : List ℕ → ℕ → ℕ
u16_at s i = u8_at s i * 256 + u8_at s (i + 1)

-- four
unfoldable pub u32_at : List ℕ → ℕ → ℕ
u32_at s i = u16_at s i * 65536 + u16_at s (i + 2)

-- eight
unfoldable pub u64_at : List ℕ → ℕ → ℕ
u64_at s i = u32_at s i * 4294967296 + u32_at s (i + 4)

-- a number as two bytes, the high one first: what `u16_at` reads back, and so on (`u16_back` .. `u64_back` of proofs/Readback)
unfoldable pub u16 : ℕ → List ℕ
u16 n = n / 256 % 256 ∷ n % 256 ∷ []

-- four
unfoldable pub u32 : ℕ → List ℕ
u32 n = u16 (n / 65536) ++ u16 n

-- eight
unfoldable pub u64 : ℕ → List ℕ
u64 n = u32 (n / 4294967296) ++ u32 n
