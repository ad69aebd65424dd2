-- A helix and a sheet of three residues, two of them with an oxygen, against words recorded from the Rust: rings 0, 5, 12 and 16, and the
-- normals of both caps. Assumes nothing.
use mathlib.Core.Bool.{Bool, true, ◌&&◌}
use mathlib.Core.List.{List, [], ◌∷◌, ◌++◌}
use Prim.Native.Nat.{ℕ}
use lib.Count.{count_trailing_zeros}
use lib.Dec.{T}
use lib.ListN.{get_or}
use lib.Ieee.{Float, binary32, to_bits, of_bits, of_fields, odd, span, climb, size, units, round, sum, add, sub, neg, mul, div, of_int, lt, eq, le, is_nan}
use Rattle.floats.specs.Floats.{root, nearest_root, floor_root, root_digits, greater, absolute}
use Rattle.vectors.specs.Vec.{vadd, vsub, vscale, vcross, vdot, vlength, normalised, direction_of, vec_at, lit, floats, eight}
use Rattle.lists.specs.Put.{put, upto}
use Rattle.shape.specs.declared.Kind.{Kind}
use Rattle.shape.specs.declared.Kind.TheVariants.{Helix, Sheet}
use Rattle.shape.specs.declared.Oxygen.{Oxygen}
use Rattle.shape.specs.declared.Oxygen.TheVariants.{At, Missing}
use Rattle.shape.specs.Spline.{bend, twist, catmull_rom, catmull_rom_tangent}
use Rattle.shape.specs.Guide.{fallback_perp, across, upright, compute_guide, raw_guide, or_up, tangent_of, directed, agreeing, weighted, smooth_guide, smooth_position, between}
use Rattle.shape.specs.Ring.{cos_bits, sin_bits, cos_at, sin_at, half_sizes, in_arrow, arrow, profile_of, steep, spoke_at, spokes_of, point_on, normal_on, ring_over, cross_section}
use Rattle.smooth.specs.Pass.{guide_pass, position_pass, repeated, smooth_guides, smooth_positions}
use Rattle.curve.specs.Residues.{tangent_at, raw_at, signed_at, signed, sum_of, same, settled, guides_of, points_of}
use Rattle.curve.specs.Samples.{span_of, span_at, param_at, frame_of, frame_at, ring_at}
use Rattle.skin.specs.Tube.{ordered, ring_positions, ring_normals, start_normal, skin_positions, skin_normals}
use Rattle.caps.specs.Caps.{chord, end_normal_by, end_normal}
use Rattle.lists.specs.Same.{same_list}

-- the C-alphas and the oxygens
pub bent : List Float
bent = lit 0x00000000 ∷ lit 0x3f000000 ∷ lit 0x3e800000 ∷ lit 0x40600000 ∷ lit 0xbf400000 ∷ lit 0x3f800000 ∷ lit 0x40d80000 ∷ lit 0x3f900000 ∷ lit 0x3f000000 ∷ []

pub oxygens : ℕ → Oxygen
oxygens i = get_or (At (lit 0x3f000000) (lit 0x40200000) (lit 0x3f400000) ∷ Missing ∷ At (lit 0x40e00000) (lit 0xbf800000) (lit 0x40100000) ∷ []) i Missing

-- floats by their bits
unfoldable pub words : List Float → List ℕ
unfolding to_bits
words [] = []
words (x ∷ xs) = to_bits binary32 x ∷ words xs

pub data Case : Type 0 where
  ring : Kind → ℕ → List ℕ → List ℕ → Case
  caps : Kind → List ℕ → Case

unfoldable pub holds : Case → Bool
unfolding same_list words bent oxygens skin_positions skin_normals ordered eight ring_positions ring_normals start_normal end_normal end_normal_by chord frame_at frame_of span_of span_at param_at ring_at points_of guides_of settled smooth_guides smooth_positions repeated guide_pass position_pass signed signed_at raw_at tangent_at sum_of same fallback_perp across upright compute_guide raw_guide or_up tangent_of directed agreeing weighted smooth_guide smooth_position between bend twist catmull_rom catmull_rom_tangent cos_bits sin_bits cos_at sin_at half_sizes in_arrow arrow profile_of steep spoke_at spokes_of point_on normal_on ring_over cross_section vec_at upto put vadd vsub vscale vcross vdot vlength normalised direction_of root nearest_root floor_root root_digits greater absolute is_nan lt eq le to_bits of_bits of_fields odd span climb size units round sum add sub neg mul div of_int count_trailing_zeros
holds (ring kind s p q) =
    same_list (words (ring_positions kind (points_of kind bent 3) (guides_of kind bent oxygens 3) 3 s)) p
    && same_list (words (ring_normals kind (points_of kind bent 3) (guides_of kind bent oxygens 3) 3 s)) q
holds (caps kind ws) =
    same_list (words (floats (start_normal (points_of kind bent 3) (guides_of kind bent oxygens 3) 3) ++ floats (end_normal (points_of kind bent 3) (guides_of kind bent oxygens 3) 3))) ws

unfoldable pub every : List Case → Bool
unfolding holds
every [] = true
every (x ∷ xs) = holds x && every xs

pub recorded : List Case
recorded =
    ring Helix 0 (0xbd35c500 ∷ 0x3efc3f2d ∷ 0x3ee3c6e0 ∷ 0x3e433939 ∷ 0x3f94b8a6 ∷ 0x3eed497d ∷ 0x3ea0c3dc ∷ 0x3fb8c098 ∷ 0x3eb6c743 ∷ 0x3e81be90 ∷ 0x3f960c5a ∷ 0x3e405cce ∷ 0x3d35c4f9 ∷ 0x3f01e069 ∷ 0x3d61c8f9 ∷ 0xbe43393c ∷ 0xbe25c53c ∷ 0x3d15b420 ∷ 0xbea0c3dc ∷ 0xbee3025e ∷ 0x3e12717a ∷ 0xbe81be8e ∷ 0xbe3062c8 ∷ 0x3e9fd19b ∷ []) (0xbe633640 ∷ 0xbd1620f8 ∷ 0x3f797131 ∷ 0xbe1fbe0c ∷ 0x3e18a602 ∷ 0x3f79f839 ∷ 0x3ea0c3de ∷ 0x3f71812f ∷ 0x3ddb1cf0 ∷ 0x3e8eedae ∷ 0x3e624152 ∷ 0xbf6f3a09 ∷ 0x3e633640 ∷ 0x3d1620f4 ∷ 0xbf797131 ∷ 0x3e1fbe09 ∷ 0xbe18a606 ∷ 0xbf79f837 ∷ 0xbea0c3dc ∷ 0xbf71812f ∷ 0xbddb1d05 ∷ 0xbe8eedad ∷ 0xbe62414a ∷ 0x3f6f3a09 ∷ [])
    ∷ ring Helix 5 (0x400aa65a ∷ 0xbefe7b02 ∷ 0x3f80c2c5 ∷ 0x401bc555 ∷ 0x3e220930 ∷ 0x3f74c0fb ∷ 0x40245709 ∷ 0x3ed80e9c ∷ 0x3f522069 ∷ 0x401f566b ∷ 0x3e0f10c8 ∷ 0x3f2dec95 ∷ 0x400fb1a6 ∷ 0xbf05f280 ∷ 0x3f1d5a76 ∷ 0x3ffd2556 ∷ 0xbf96d926 ∷ 0x3f2a1f06 ∷ 0x3fec01ef ∷ 0xbfb89ba7 ∷ 0x3f4cbf97 ∷ 0x3ff6032b ∷ 0xbf947a17 ∷ 0x3f70f36c ∷ []) (0xbe49c3d2 ∷ 0x3d8623df ∷ 0x3f7a6bb4 ∷ 0xbdfa4c12 ∷ 0x3e7cf555 ∷ 0x3f7615c9 ∷ 0x3eb95846 ∷ 0x3f6e9f4e ∷ 0x3c2c195e ∷ 0x3e8745c2 ∷ 0x3df2d8a2 ∷ 0xbf7507c5 ∷ 0x3e49c3d2 ∷ 0xbd8623e1 ∷ 0xbf7a6bb4 ∷ 0x3dfa4c0e ∷ 0xbe7cf55a ∷ 0xbf7615c9 ∷ 0xbeb95846 ∷ 0xbf6e9f50 ∷ 0xbc2c1a06 ∷ 0xbe8745c1 ∷ 0xbdf2d892 ∷ 0x3f7507c5 ∷ [])
    ∷ ring Helix 12 (0x40a493b9 ∷ 0x3d36f16a ∷ 0x3f82b37f ∷ 0x40972eaf ∷ 0x3f14bdec ∷ 0x3f51dc05 ∷ 0x409196c6 ∷ 0x3f45bf4f ∷ 0x3f1f920a ∷ 0x409712c9 ∷ 0x3f01be52 ∷ 0x3f0bfe77 ∷ 0x40a46c47 ∷ 0xbd76f17c ∷ 0x3f229901 ∷ 0x40b1d151 ∷ 0xbf18bdee ∷ 0x3f5623fd ∷ 0x40b7693a ∷ 0xbf49bf4f ∷ 0x3f8436fb ∷ 0x40b1ed36 ∷ 0xbf05be4e ∷ 0x3f8e00c5 ∷ []) (0x3c453ea0 ∷ 0x3e8656e2 ∷ 0x3f7702f9 ∷ 0xbdd52f14 ∷ 0x3ed213f4 ∷ 0x3f67eebb ∷ 0xbf1749d1 ∷ 0x3f47bf4e ∷ 0xbe51b7e5 ∷ 0xbe02c4cc ∷ 0xbdd58878 ∷ 0xbf7c7f41 ∷ 0xbc453e95 ∷ 0xbe8656e2 ∷ 0xbf7702f9 ∷ 0x3dd52f1a ∷ 0xbed213f6 ∷ 0xbf67eeba ∷ 0x3f1749d1 ∷ 0xbf47bf4f ∷ 0x3e51b7db ∷ 0x3e02c4c6 ∷ 0x3dd58886 ∷ 0x3f7c7f41 ∷ [])
    ∷ ring Helix 16 (0x40d79f10 ∷ 0x3f9900d1 ∷ 0x3f2fd559 ∷ 0x40cc35b1 ∷ 0x3fde429f ∷ 0x3ecbb748 ∷ 0x40c7b468 ∷ 0x3ff5ac6a ∷ 0x3e2cc8e6 ∷ 0x40ccbec9 ∷ 0x3fd1871d ∷ 0x3e08d868 ∷ 0x40d860f0 ∷ 0x3f86ff2e ∷ 0x3ea0554f ∷ 0x40e3ca4f ∷ 0x3f037ac1 ∷ 0x3f1a245d ∷ 0x40e84b98 ∷ 0x3ea94e5a ∷ 0x3f54cdc6 ∷ 0x40e34137 ∷ 0x3f1cf1ca ∷ 0x3f5dc9e6 ∷ []) (0xbd725874 ∷ 0x3eb4105c ∷ 0x3f6f2abe ∷ 0xbe21aca7 ∷ 0x3f0029c7 ∷ 0x3f59e41e ∷ 0xbf025cbf ∷ 0x3f4b58d2 ∷ 0xbea99b94 ∷ 0xbd2b6b46 ∷ 0xbe419daa ∷ 0xbf7b2766 ∷ 0x3d725876 ∷ 0xbeb4105c ∷ 0xbf6f2abe ∷ 0x3e21aca9 ∷ 0xbf0029c9 ∷ 0xbf59e41e ∷ 0x3f025cbf ∷ 0xbf4b58d3 ∷ 0x3ea99b8f ∷ 0x3d2b6b34 ∷ 0x3e419db2 ∷ 0x3f7b2765 ∷ [])
    ∷ caps Helix (0xbf6c526c ∷ 0x3ea8cd29 ∷ 0xbe4a8fca ∷ 0x3f5bcced ∷ 0x3efd9daf ∷ 0xbe074308 ∷ [])
    ∷ ring Sheet 0 (0xbc1d8908 ∷ 0x3f057a6a ∷ 0x3ecbdada ∷ 0xbccb9447 ∷ 0x3f9b7762 ∷ 0x3e814fca ∷ 0xbcd12308 ∷ 0x3fbe9d26 ∷ 0x3dd80020 ∷ 0xbc385eb2 ∷ 0x3f9797ba ∷ 0x3d304b24 ∷ 0x3c1d890a ∷ 0x3ef50b2a ∷ 0x3dd0949c ∷ 0x3ccb9448 ∷ 0xbe5bbb1c ∷ 0x3e7d606c ∷ 0x3cd12308 ∷ 0xbefa7498 ∷ 0x3ec9fff8 ∷ 0x3c385ea8 ∷ 0xbe3cbdc4 ∷ 0x3ee9f69c ∷ []) (0xbd834786 ∷ 0x3e1215ad ∷ 0x3f7cd97f ∷ 0xbd899534 ∷ 0x3e935cb0 ∷ 0x3f749047 ∷ 0xbcd12300 ∷ 0x3f7d3a4d ∷ 0xbe140004 ∷ 0x3d742468 ∷ 0x3bb93101 ∷ 0xbf7f8a6f ∷ 0x3d834786 ∷ 0xbe1215ae ∷ 0xbf7cd97f ∷ 0x3d899534 ∷ 0xbe935cb2 ∷ 0xbf749047 ∷ 0x3cd12307 ∷ 0xbf7d3a4e ∷ 0x3e13fff6 ∷ 0xbd742468 ∷ 0xbbb93041 ∷ 0x3f7f8a6f ∷ [])
    ∷ ring Sheet 5 (0x40072540 ∷ 0x3f10e62d ∷ 0x3f095ae4 ∷ 0x400662c4 ∷ 0x3fa13144 ∷ 0x3ec84dd6 ∷ 0x40067016 ∷ 0x3fc4590c ∷ 0x3e7a1a7d ∷ 0x40074566 ∷ 0x3f9d527c ∷ 0x3e3a11e4 ∷ 0x400865c0 ∷ 0x3f05f3d2 ∷ 0x3e76046f ∷ 0x4009283c ∷ 0xbe2e2224 ∷ 0x3ec56a2b ∷ 0x40091aea ∷ 0xbee3b030 ∷ 0x3f085561 ∷ 0x4008459a ∷ 0xbe0f2bcc ∷ 0x3f185788 ∷ []) (0xbd858b0b ∷ 0x3e11f4b1 ∷ 0x3f7cd5f3 ∷ 0xbd8a6579 ∷ 0x3e934f95 ∷ 0x3f74906b ∷ 0xbcaab506 ∷ 0x3f7d4519 ∷ 0xbe139d97 ∷ 0x3d7b784d ∷ 0x3bbe11c0 ∷ 0xbf7f8345 ∷ 0x3d858b0b ∷ 0xbe11f4b2 ∷ 0xbf7cd5f3 ∷ 0x3d8a6578 ∷ 0xbe934f96 ∷ 0xbf749069 ∷ 0x3caab50d ∷ 0xbf7d451a ∷ 0x3e139d89 ∷ 0xbd7b784f ∷ 0xbbbe1101 ∷ 0x3f7f8346 ∷ [])
    ∷ ring Sheet 12 (0x40a2284c ∷ 0x3f5e5d34 ∷ 0x3f227796 ∷ 0x409f7a15 ∷ 0x3fb09668 ∷ 0x3f030c66 ∷ 0x409e7519 ∷ 0x3fca08f8 ∷ 0x3ebf9667 ∷ 0x409fb23b ∷ 0x3fac9e26 ∷ 0x3e9ab5a9 ∷ 0x40a277b4 ∷ 0x3f5322cb ∷ 0x3ead10d4 ∷ 0x40a525eb ∷ 0x3ea0a65e ∷ 0x3eebe735 ∷ 0x40a62ae7 ∷ 0x3deb7088 ∷ 0x3f1934cc ∷ 0x40a4edc5 ∷ 0x3eb08770 ∷ 0x3f2ba52c ∷ []) (0xbd0457d8 ∷ 0x3e15b56e ∷ 0x3f7d1d3c ∷ 0xbd816703 ∷ 0x3eab5d5c ∷ 0x3f70b14a ∷ 0xbe247bd8 ∷ 0x3f79c295 ∷ 0xbe1919a8 ∷ 0x393dd000 ∷ 0x3d44817c ∷ 0xbf7fb48a ∷ 0x3d0457d9 ∷ 0xbe15b56f ∷ 0xbf7d1d3c ∷ 0x3d816704 ∷ 0xbeab5d5e ∷ 0xbf70b14a ∷ 0x3e247bd7 ∷ 0xbf79c294 ∷ 0x3e19199c ∷ 0xb93dd4ff ∷ 0xbd44815a ∷ 0x3f7fb48a ∷ [])
    ∷ ring Sheet 16 (0x40d7d3f7 ∷ 0x3f92ccb6 ∷ 0x3f25f6f3 ∷ 0x40d7d86c ∷ 0x3f92dd63 ∷ 0x3f1a930c ∷ 0x40d7f410 ∷ 0x3f914075 ∷ 0x3eff3c06 ∷ 0x40d816b2 ∷ 0x3f8ee7cf ∷ 0x3ec9c4c0 ∷ 0x40d82c09 ∷ 0x3f8d334a ∷ 0x3eb4121a ∷ 0x40d82794 ∷ 0x3f8d229d ∷ 0x3ecad9e9 ∷ 0x40d80bf0 ∷ 0x3f8ebf8b ∷ 0x3f0061fd ∷ 0x40d7e94e ∷ 0x3f911831 ∷ 0x3f1b1da0 ∷ []) (0xbd12c9e6 ∷ 0x3e15507e ∷ 0x3f7d18ff ∷ 0xbe175a5c ∷ 0x3f7c4932 ∷ 0xbdaad9b8 ∷ 0xbe153e12 ∷ 0x3f7a5b7c ∷ 0xbe191b89 ∷ 0xbe12788a ∷ 0x3f7751de ∷ 0xbe5c1c96 ∷ 0x3d12ca18 ∷ 0xbe1550d3 ∷ 0xbf7d18fa ∷ 0x3e175a5c ∷ 0xbf7c4932 ∷ 0x3daad9bb ∷ 0x3e153e12 ∷ 0xbf7a5b7c ∷ 0x3e191b89 ∷ 0x3e12788a ∷ 0xbf7751de ∷ 0x3e5c1c99 ∷ [])
    ∷ caps Sheet (0xbf7f63d0 ∷ 0xbd0d3abc ∷ 0xbd74cc35 ∷ 0x3f7d19ab ∷ 0x3e190991 ∷ 0x3c620641 ∷ [])
    ∷ []

pub recorded_hold : T (every recorded)
unfolding every recorded
recorded_hold = tt
