-- The normal of a tube's end cap, over n spline points p and n guides g.
use Rattle.std.specs.Prelude.{List, ℕ, ◌-◌, ◌*◌, Float, unwrap_or}
use Rattle.vectors.specs.declared.Vec3.{Vec3}
use Rattle.vectors.specs.Vec.{vsub, vec_at, direction_of}
use Rattle.curve.specs.declared.Frame.{Frame}
use Rattle.curve.specs.Samples.{frame_at}

-- 01: 'end cap: the last normalised chord of the spline points'
unfoldable pub chord : List Float → ℕ → Vec3
chord p n = vsub (vec_at p (n - 1)) (vec_at p (n - 2))

-- 02 §6: where there is no direction, 'an end cap then takes the last sample's tangent', f being that sample's frame
unfoldable pub end_normal_by : List Float → ℕ → Frame → Vec3
end_normal_by p n f = unwrap_or (direction_of (chord p n)) f.tangent

-- 01: 'There are 8(n-1)+1 samples', so the last is sample 8(n-1)
unfoldable pub end_normal : List Float → List Float → ℕ → Vec3
end_normal p g n = end_normal_by p n (frame_at p g n (8 * (n - 1)))
