-- The samples of a tube over n spline points p and n guides g: sample s is at parameter t of span i.
use Rattle.std.specs.Prelude.{cond, List, [], ◌∷◌, ℕ, ◌+◌, ◌-◌, ◌/◌, ◌%◌, ltb, eqb, pos, Float}
use Rattle.std.specs.Float.{binary32}
use Rattle.std.specs.Float.Ieee.{of_int, le}
use Rattle.vectors.specs.declared.Vec3.{Vec3}
use Rattle.vectors.specs.Vec.{vadd, vsub, vscale, vcross, normalised, lit, one, f/, vec_at}
use Rattle.shape.specs.declared.Kind.{Kind}
use Rattle.shape.specs.declared.Ring.{Ring}
use Rattle.shape.specs.Spline.{catmull_rom, catmull_rom_tangent, of4}
use Rattle.shape.specs.Guide.{directed, upright, between, tiny}
use Rattle.shape.specs.Ring.{profile_of, cross_section}
use Rattle.curve.specs.declared.Frame.{Frame}

abbrev pub half : Float
half = lit 0x3f000000

-- 01: 'extended linearly at both ends'
abbrev pub before_of : List Float → ℕ → Vec3 → Vec3 → Vec3
before_of p i p1 p2 = cond (eqb i 0) (vadd p1 (vsub p1 p2)) (vec_at p (i - 1))

abbrev pub after_of : List Float → ℕ → ℕ → Vec3 → Vec3 → Vec3
after_of p n i p1 p2 = cond (eqb (i + 2) n) (vadd p2 (vsub p2 p1)) (vec_at p (i + 2))

-- 01: 'The four control points of a span are an array by value'
unfoldable pub span_of : List Float → ℕ → ℕ → List Vec3
span_of p n i =
    before_of p i (vec_at p i) (vec_at p (i + 1)) ∷ vec_at p i ∷ vec_at p (i + 1) ∷
    after_of p n i (vec_at p i) (vec_at p (i + 1)) ∷ []

-- 01: 'There are 8(n-1)+1 samples; the last uses span n-2 with t = 1': the span and the t of sample s, for s from 0 to 8(n-1)
unfoldable pub span_at : ℕ → ℕ → ℕ
span_at n s = cond (ltb (s / 8 + 1) n) (s / 8) (n - 2)

unfoldable pub param_at : ℕ → ℕ → Float
param_at n s = cond (ltb (s / 8 + 1) n) (f/ (of_int binary32 (pos (s % 8))) (lit 0x41000000)) one

abbrev pub framed : Vec3 → Vec3 → Vec3 → Frame
framed position tangent guide = record { position = position; tangent = tangent; guide = guide; binormal = normalised (vcross tangent guide) }

abbrev pub leaning : Vec3 → Vec3 → Vec3 → Frame
leaning position tangent g = framed position tangent (upright g tangent tiny)

-- the frame at parameter t of the span with control points q, where g is the guide between the span's ends
unfoldable pub frame_of : List Vec3 → Float → Vec3 → Frame
frame_of q t g = leaning (vscale (of4 catmull_rom q t) half) (directed (of4 catmull_rom_tangent q t)) g

abbrev pub guide_between : List Float → ℕ → Float → Vec3
guide_between g i t = between (vec_at g i) (vec_at g (i + 1)) t

unfoldable pub frame_at : List Float → List Float → ℕ → ℕ → Frame
frame_at p g n s = frame_of (span_of p n (span_at n s)) (param_at n s) (guide_between g (span_at n s) (param_at n s))

abbrev pub ring_from : Frame → Kind → ℕ → ℕ → Ring
ring_from f kind n s = cross_section f.position f.guide f.binormal (profile_of kind n (span_at n s) (param_at n s))

unfoldable pub ring_at : Kind → List Float → List Float → ℕ → ℕ → Ring
ring_at kind p g n s = ring_from (frame_at p g n s) kind n s

-- 01: 'Tag: first residue + i, one more if t is at least 0.5'
unfoldable pub tag_at : ℕ → ℕ → ℕ → ℕ
tag_at first n s = first + span_at n s + cond (le half (param_at n s)) 1 0
