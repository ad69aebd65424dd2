-- The range of check 8, over floats.
use Rattle.std.specs.Prelude.{ℕ, Bool, ◌&&◌}
use Rattle.std.specs.Float.Ieee.{of_bits, le}
use Rattle.std.specs.Float.{binary64}

-- 'within -16384 to 16384 (NaN included)': of the bits of an f64. A NaN is not within.
unfoldable pub within : ℕ → Bool
within x = le (of_bits binary64 0xC0D0000000000000) (of_bits binary64 x) && le (of_bits binary64 x) (of_bits binary64 0x40D0000000000000)
