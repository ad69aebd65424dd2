-- The spline between the second and the third of four control points (01: 'The four control points of a span are an array by value'). Each
-- operation rounds once, in the order the Rust writes it.
use Rattle.std.specs.Prelude.{List, get_or, Float}
use Rattle.std.specs.Float.Ieee.{neg}
use Rattle.vectors.specs.declared.Vec3.{Vec3}
use Rattle.vectors.specs.Vec.{vadd, vsub, vscale, lit, one, vpast, f*}

abbrev pub two : Float
two = lit 0x40000000

abbrev pub three : Float
three = lit 0x40400000

abbrev pub four : Float
four = lit 0x40800000

abbrev pub five : Float
five = lit 0x40a00000

-- the Rust: 'p0 * 2.0 - p1 * 5.0 + p2 * 4.0 - p3', the weight of t², in both functions
unfoldable pub bend : Vec3 → Vec3 → Vec3 → Vec3 → Vec3
bend p0 p1 p2 p3 = vsub (vadd (vsub (vscale p0 two) (vscale p1 five)) (vscale p2 four)) p3

-- the Rust: 'p0 * (-1.0) + p1 * 3.0 - p2 * 3.0 + p3', the weight of t³
unfoldable pub twist : Vec3 → Vec3 → Vec3 → Vec3 → Vec3
twist p0 p1 p2 p3 = vadd (vsub (vadd (vscale p0 (neg one)) (vscale p1 three)) (vscale p2 three)) p3

-- twice the spline at t (the Rust: 'Returns 2× the true value; caller must multiply by 0.5')
unfoldable pub catmull_rom : Vec3 → Vec3 → Vec3 → Vec3 → Float → Vec3
catmull_rom p0 p1 p2 p3 t =
    vadd (vadd (vadd (vscale p1 two) (vscale (vsub p2 p0) t)) (vscale (bend p0 p1 p2 p3) (f* t t)))
    (vscale (twist p0 p1 p2 p3) (f* (f* t t) t))

-- the derivative of that doubled curve, never halved (01: 'Halving the tangent, whose 1e-8 test is on the doubled curve')
unfoldable pub catmull_rom_tangent : Vec3 → Vec3 → Vec3 → Vec3 → Float → Vec3
catmull_rom_tangent p0 p1 p2 p3 t =
    vadd (vadd (vsub p2 p0) (vscale (bend p0 p1 p2 p3) (f* two t))) (vscale (twist p0 p1 p2 p3) (f* three (f* t t)))

-- a function of four points, of the array that holds them
abbrev pub of4 : {A : Type 0} → (Vec3 → Vec3 → Vec3 → Vec3 → A) → List Vec3 → A
of4 f p = f (get_or p 0 vpast) (get_or p 1 vpast) (get_or p 2 vpast) (get_or p 3 vpast)
