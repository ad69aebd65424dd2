-- Half-sizes, the eight angles, and a cross-section: eight points on an ellipse and their normals.
use Rattle.std.specs.Prelude.{Bool, false, cond, List, [], ◌∷◌, ℕ, ◌+◌, ◌-◌, eqb, pos, get_or, Float}
use Rattle.std.specs.Float.{nan, binary32}
use Rattle.std.specs.Float.Ieee.{of_bits, of_int}
use Rattle.floats.specs.Floats.{root, greater}
use Rattle.vectors.specs.declared.Vec3.{Vec3}
use Rattle.vectors.specs.Vec.{vadd, vscale, normalised, lit, one, f+, f_, f*, f/}
use Rattle.lists.specs.Put.{upto}
use Rattle.shape.specs.Guide.{tiny}
use Rattle.shape.specs.declared.Ring.{Ring}
use Rattle.shape.specs.declared.Kind.{Kind}
use Rattle.shape.specs.declared.Kind.TheVariants.{Coil, Helix, Sheet}
use Rattle.shape.specs.declared.Profile.{Profile}
use Rattle.shape.specs.declared.Spoke.{Spoke}

-- 01: 'The eight angle entries are recorded as bits from the oracle's build machine'
unfoldable pub cos_bits : List ℕ
cos_bits = 0x3f800000 ∷ 0x3f3504f3 ∷ 0xb33bbd2e ∷ 0xbf3504f3 ∷ 0xbf800000 ∷ 0xbf3504f1 ∷ 0x324cde2e ∷ 0x3f3504f7 ∷ []

unfoldable pub sin_bits : List ℕ
sin_bits = 0x00000000 ∷ 0x3f3504f3 ∷ 0x3f800000 ∷ 0x3f3504f3 ∷ 0xb3bbbd2e ∷ 0xbf3504f5 ∷ 0xbf800000 ∷ 0xbf3504ef ∷ []

unfoldable pub cos_at : ℕ → Float
cos_at k = of_bits binary32 (get_or cos_bits k 0)

unfoldable pub sin_at : ℕ → Float
sin_at k = of_bits binary32 (get_or sin_bits k 0)

abbrev pub profile : Float → Float → Profile
profile w h = record { half_width = w; half_height = h }

-- 01: 'Half-sizes along binormal and guide: coil 0.25, 0.25; helix 0.2, 1.0; sheet 0.15, 1.0'
unfoldable pub half_sizes : Kind → Profile
half_sizes Coil = profile (lit 0x3e800000) (lit 0x3e800000)
half_sizes Helix = profile (lit 0x3e4ccccd) one
half_sizes Sheet = profile (lit 0x3e19999a) one

-- 01: 'From residue n-2 on' a sheet has its arrow; span i begins at residue i
unfoldable pub in_arrow : Kind → ℕ → ℕ → Bool
in_arrow Coil n i = false
in_arrow Helix n i = false
in_arrow Sheet n i = eqb (i + 2) n

-- 01: 'with u = i + t - (n-2), a sheet's guide half-size is the greater of 1.5(1-u) and 0.01'
unfoldable pub arrow : ℕ → ℕ → Float → Float
arrow n i t =
    let u = f_ (f+ (of_int binary32 (pos i)) t) (of_int binary32 (pos (n - 2))) in
    greater (f* (lit 0x3fc00000) (f_ one u)) (lit 0x3c23d70a)

-- the half-sizes at parameter t of span i
unfoldable pub profile_of : Kind → ℕ → ℕ → Float → Profile
profile_of kind n i t = cond (in_arrow kind n i) (profile (half_sizes kind).half_width (arrow n i t)) (half_sizes kind)

-- the length of the ellipse's gradient (nx, ny), at least 1e-8
unfoldable pub steep : Float → Float → Float
steep nx ny = greater (root binary32 (f+ (f* nx nx) (f* ny ny))) tiny

-- the gradient's two parts over its length
abbrev pub spoke : Float → Float → Float → Float → Spoke
spoke w h nx ny = record { width = w; height = h; nx = f/ nx (steep nx ny); ny = f/ ny (steep nx ny) }

-- what angle k takes from a profile alone: how far out along binormal and guide, and how the normal leans to them
unfoldable pub spoke_at : Profile → ℕ → Spoke
spoke_at p k =
    spoke (f* p.half_width (cos_at k)) (f* p.half_height (sin_at k)) (f/ (cos_at k) p.half_width) (f/ (sin_at k) p.half_height)

unfoldable pub spokes_of : Profile → List Spoke
spokes_of p = upto (λ k. spoke_at p k ∷ []) 8

-- the point of the ellipse on a spoke, and its normal
unfoldable pub point_on : Vec3 → Vec3 → Vec3 → Spoke → Vec3
point_on center guide binormal s = vadd (vadd center (vscale binormal s.width)) (vscale guide s.height)

unfoldable pub normal_on : Vec3 → Vec3 → Spoke → Vec3
normal_on guide binormal s = normalised (vadd (vscale binormal s.nx) (vscale guide s.ny))

-- past the end of an array of spokes
abbrev pub spoke_past : Spoke
spoke_past = record { width = nan; height = nan; nx = nan; ny = nan }

-- 01: 'Eight positions and eight normals travel together as one ring'
unfoldable pub ring_over : Vec3 → Vec3 → Vec3 → List Spoke → Ring
ring_over center guide binormal spokes = record {
  positions = upto (λ k. point_on center guide binormal (get_or spokes k spoke_past) ∷ []) 8;
  normals = upto (λ k. normal_on guide binormal (get_or spokes k spoke_past) ∷ []) 8;
}

unfoldable pub cross_section : Vec3 → Vec3 → Vec3 → Profile → Ring
cross_section center guide binormal p = ring_over center guide binormal (spokes_of p)
