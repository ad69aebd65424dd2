-- 02 §6 on the smallest points that show it, computed: the end cap's normal by its bits. Assumes nothing.
use mathlib.Core.Bool.{Bool}
use mathlib.Core.List.{List, [], ◌∷◌, map}
use Prim.Native.Nat.{ℕ}
use lib.Count.{count_trailing_zeros}
use lib.Dec.{T}
use lib.Ieee.{binary32, to_bits, of_bits, of_fields, odd, span, climb, size, units, round, sum, add, sub, neg, mul, div, of_int, lt, eq, le, is_nan}
use Rattle.floats.specs.Floats.{root, nearest_root, floor_root, root_digits}
use Rattle.vectors.specs.Vec.{vadd, vsub, vscale, vdot, vlength, normalised, direction_of, vec_at, floats}
use Rattle.lists.specs.Same.{same_list}
use Rattle.shape.specs.Spline.{bend, twist, catmull_rom_tangent}
use Rattle.shape.specs.Guide.{directed}
use Rattle.curve.specs.Samples.{span_of, span_at, param_at, frame_of, frame_at}
use Rattle.caps.specs.Caps.{chord, end_normal_by, end_normal}

-- of n spline points, by their bits, the end cap's normal has the bits ws. No guide is read for it
unfoldable pub has : List ℕ → ℕ → List ℕ → Bool
unfolding chord end_normal end_normal_by frame_at frame_of span_of span_at param_at directed bend twist catmull_rom_tangent same_list vadd vsub vscale vdot vlength normalised direction_of vec_at root nearest_root floor_root root_digits to_bits of_bits of_fields odd span climb size units round sum add sub neg mul div of_int lt eq le is_nan count_trailing_zeros
has p n ws = same_list (map (to_bits binary32) (floats (end_normal (map (of_bits binary32) p) [] n))) ws

-- ---- the last two points coincide

-- (0, 0, 0), (4, 0, 0) twice: the derivative at the last sample is 0 too, and its tangent (0, 1, 0), 01's fallback
pub level : T (has (0 ∷ 0 ∷ 0 ∷ 0x40800000 ∷ 0 ∷ 0 ∷ 0x40800000 ∷ 0 ∷ 0 ∷ []) 3 (0 ∷ 0x3f800000 ∷ 0 ∷ []))
unfolding has
level = tt

-- (0.1, 0, 0), (4.1, 0, 0) twice: what rounding leaves of the derivative points back into the tube, (-1, 0, 0)
pub backwards : T (has (0x3dcccccd ∷ 0 ∷ 0 ∷ 0x40833333 ∷ 0 ∷ 0 ∷ 0x40833333 ∷ 0 ∷ 0 ∷ []) 3 (0xbf800000 ∷ 0 ∷ 0 ∷ []))
unfolding has
backwards = tt

-- (0.1, 0.2, 0.3), (3.9, 0.2, 0.3) twice
pub aslant : T (has (0x3dcccccd ∷ 0x3e4ccccd ∷ 0x3e99999a ∷ 0x4079999a ∷ 0x3e4ccccd ∷ 0x3e99999a ∷ 0x4079999a ∷ 0x3e4ccccd ∷ 0x3e99999a ∷ []) 3 (0x3f7f7e62 ∷ 0x3bff7e62 ∷ 0x3d7f7e62 ∷ []))
unfolding has
aslant = tt

-- ---- they do not, and their chord has length 0 all the same: (0, 0, 0), (1e-25, 0, 0)
pub vanishing : T (has (0 ∷ 0 ∷ 0 ∷ 0x15f79688 ∷ 0 ∷ 0 ∷ []) 2 (0 ∷ 0x3f800000 ∷ 0 ∷ []))
unfolding has
vanishing = tt

-- ---- a chord far below 1e-8 has its direction: (0, 0, 0), (2 ^ -66, 0, 0)
pub short : T (has (0 ∷ 0 ∷ 0 ∷ 0x1e800000 ∷ 0 ∷ 0 ∷ []) 2 (0x3f800000 ∷ 0 ∷ 0 ∷ []))
unfolding has
short = tt
