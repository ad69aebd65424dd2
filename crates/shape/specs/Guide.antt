-- Directions: tangents, guides and their smoothing, each from the vectors that it depends on.
use Rattle.std.specs.Prelude.{cond, Float}
use Rattle.std.specs.Float.Ieee.{lt, neg}
use Rattle.floats.specs.Floats.{absolute}
use Rattle.vectors.specs.declared.Vec3.{Vec3}
use Rattle.vectors.specs.Vec.{vadd, vsub, vscale, vdot, vcross, vlength, normalised, lit, one, vec, f/}
use Rattle.shape.specs.Spline.{two}
use Rattle.shape.specs.declared.Oxygen.{Oxygen}
use Rattle.shape.specs.declared.Oxygen.TheVariants.{At, Missing}

-- 1e-6, the limit of `compute_guide`, and 1e-8, every other limit of the Rust
abbrev pub small : Float
small = lit 0x358637bd

abbrev pub tiny : Float
tiny = lit 0x322bcc77

abbrev pub yaxis : Vec3
yaxis = vec (lit 0) one (lit 0)

abbrev pub zaxis : Vec3
zaxis = vec (lit 0) (lit 0) one

-- 01: '`fallback_perp` (z magnitude below 0.9)': crossed with the z axis there, else with the y axis
abbrev pub helper : Vec3 → Vec3
helper v = cond (lt (absolute v.z) (lit 0x3f666666)) zaxis yaxis

unfoldable pub fallback_perp : Vec3 → Vec3
fallback_perp v = normalised (vcross v (helper v))

-- the part of v that is perpendicular to the tangent
unfoldable pub across : Vec3 → Vec3 → Vec3
across v tangent = vsub v (vscale tangent (vdot v tangent))

-- that part normalised, or the fallback where it is shorter than a limit: 1e-6 in `compute_guide`, 1e-8 at a sample
abbrev pub or_fallback : Vec3 → Vec3 → Float → Vec3
or_fallback perp tangent limit = cond (lt (vlength perp) limit) (fallback_perp tangent) (normalised perp)

unfoldable pub upright : Vec3 → Vec3 → Float → Vec3
upright v tangent limit = or_fallback (across v tangent) tangent limit

-- 01: '`compute_guide` (1e-6)'
unfoldable pub compute_guide : Vec3 → Vec3 → Vec3 → Vec3
compute_guide ca o tangent = upright (normalised (vsub o ca)) tangent small

-- 01: 'An oxygen is either a position of three floats or missing'; the guide is chosen by which of the two it is
unfoldable pub raw_guide : Vec3 → Oxygen → Vec3 → Vec3
raw_guide ca (At x y z) tangent = compute_guide ca (vec x y z) tangent
raw_guide ca Missing tangent = fallback_perp tangent

-- v, or the y axis where it is shorter than 1e-8
unfoldable pub or_up : Vec3 → Vec3
or_up v = cond (lt (vlength v) tiny) yaxis v

-- a residue's tangent, from its neighbours: the 1e-8 test is on the normalised difference
unfoldable pub tangent_of : Vec3 → Vec3 → Vec3
tangent_of before after = or_up (normalised (vsub after before))

-- a sample's tangent, from the derivative of the doubled curve: the 1e-8 test is on the derivative itself
unfoldable pub directed : Vec3 → Vec3
directed v = cond (lt (vlength v) tiny) yaxis (normalised v)

-- the Rust: 'flip each guide that disagrees with the previous'
unfoldable pub agreeing : Vec3 → Vec3 → Vec3
agreeing before g = cond (lt (vdot g before) (lit 0)) (vscale g (neg one)) g

-- the Rust: 'a + prev[i] * 2.0 + c', the sum of both smoothings
unfoldable pub weighted : Vec3 → Vec3 → Vec3 → Vec3
weighted a b c = vadd (vadd a (vscale b two)) c

-- a guide smoothed between its neighbours: the sum times 1 / its length, or the old guide where that is below 1e-8
abbrev pub rescaled : Vec3 → Vec3 → Vec3
rescaled old sum = cond (lt (vlength sum) tiny) old (vscale sum (f/ one (vlength sum)))

unfoldable pub smooth_guide : Vec3 → Vec3 → Vec3 → Vec3
smooth_guide a b c = rescaled b (weighted a b c)

-- a position smoothed between its neighbours: a quarter of the sum
unfoldable pub smooth_position : Vec3 → Vec3 → Vec3 → Vec3
smooth_position a b c = vscale (weighted a b c) (lit 0x3e800000)

-- from a to b by the part t
unfoldable pub between : Vec3 → Vec3 → Float → Vec3
between a b t = vadd a (vscale (vsub b a) t)
