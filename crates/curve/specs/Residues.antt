-- What is known at each of a tube's n residues: its guide and its spline point. `ca` holds the C-alphas, three floats each, and
-- `o i` is the oxygen of residue i.
use Rattle.std.specs.Prelude.{cond, List, ℕ, zero, suc, ◌-◌, eqb, get_or, Float}
use Rattle.vectors.specs.declared.Vec3.{Vec3}
use Rattle.vectors.specs.Vec.{vadd, normalised, vzero, vec_at, floats_of}
use Rattle.shape.specs.declared.Kind.{Kind}
use Rattle.shape.specs.declared.Kind.TheVariants.{Coil, Helix, Sheet}
use Rattle.shape.specs.declared.Oxygen.{Oxygen}
use Rattle.shape.specs.declared.Oxygen.TheVariants.{At, Missing}
use Rattle.shape.specs.Guide.{raw_guide, tangent_of, agreeing}
use Rattle.smooth.specs.Pass.{after, smooth_guides, smooth_positions}

-- an oxygen out of flat lists: a flag, 0 where it is missing, and three floats
unfoldable pub oxygen_at : List ℕ → List Float → ℕ → Oxygen
oxygen_at flags at i = cond (eqb (get_or flags i 0) 0) Missing (At (vec_at at i).x (vec_at at i).y (vec_at at i).z)

-- the Rust's step 1: the central difference, one-sided at both ends
unfoldable pub tangent_at : List Float → ℕ → ℕ → Vec3
tangent_at ca n i = tangent_of (vec_at ca (i - 1)) (vec_at ca (after n i))

-- the Rust's step 2
unfoldable pub raw_at : List Float → (ℕ → Oxygen) → ℕ → ℕ → Vec3
raw_at ca o n i = raw_guide (vec_at ca i) (o i) (tangent_at ca n i)

-- the Rust: 'flip each guide that disagrees with the previous', as it stands after its own flip
unfoldable pub signed_at : (ℕ → Vec3) → ℕ → Vec3
signed_at raw zero = raw zero
signed_at raw (suc i) = agreeing (signed_at raw i) (raw (suc i))

unfoldable pub signed : List Float → (ℕ → Oxygen) → ℕ → List Float
signed ca o n = floats_of (signed_at (raw_at ca o n)) n

-- the sum of the first k vectors, from the zero vector on
unfoldable pub sum_of : List Float → ℕ → Vec3
sum_of g zero = vzero
sum_of g (suc k) = vadd (sum_of g k) (vec_at g k)

-- one vector n times
unfoldable pub same : Vec3 → ℕ → List Float
same v n = floats_of (λ (i : ℕ). v) n

-- 01: 'helix guides 3, coil guides 1; a sheet uses one averaged guide'
unfoldable pub settled : Kind → ℕ → List Float → List Float
settled Coil n g = smooth_guides 1 n g
settled Helix n g = smooth_guides 3 n g
settled Sheet n g = same (normalised (sum_of g n)) n

unfoldable pub guides_of : Kind → List Float → (ℕ → Oxygen) → ℕ → List Float
guides_of kind ca o n = settled kind n (signed ca o n)

-- 01: 'Sheet positions get 3 smoothing passes'; the other kinds' splines go through the C-alphas
unfoldable pub points_of : Kind → List Float → ℕ → List Float
points_of Coil ca n = ca
points_of Helix ca n = ca
points_of Sheet ca n = smooth_positions 3 n ca
