-- What lent buffers hold before a call.
use Rattle.std.specs.Prelude.{ℕ, ◌+◌, ◌%◌, Float}
use Rattle.std.specs.Float.{binary32}
use Rattle.std.specs.Float.Ieee.{of_bits}

-- place i of a buffer of words
abbrev pub word_pattern : ℕ → ℕ
word_pattern i = 0xc0de0000 + i % 65536

-- place i of lent bytes
abbrev pub byte_pattern : ℕ → ℕ
byte_pattern i = (i + 165) % 256

-- place i of a buffer of floats
abbrev pub float_pattern : ℕ → Float
float_pattern i = of_bits binary32 (0x40000000 + i % 65536)
