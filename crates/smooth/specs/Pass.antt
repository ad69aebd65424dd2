-- Smoothing a flat list of n vectors. A pass gives a new list, each vector of which is a function of the OLD list; passes are repeated.
use Rattle.std.specs.Prelude.{Bool, cond, ◌||◌, List, ℕ, zero, suc, ◌+◌, ◌*◌, ◌-◌, ◌/◌, ◌≤◌, ◌≡◌, ltb, eqb, length, Float}
use Rattle.vectors.specs.declared.Vec3.{Vec3}
use Rattle.vectors.specs.Vec.{vec_at, floats_of}
use Rattle.shape.specs.Guide.{smooth_guide, smooth_position}

-- how many vectors a flat list holds
abbrev pub vectors : List Float → ℕ
vectors l = length l / 3

-- 01: 'list lengths under 2 are not given'
pub record Smoothable (l : List Float) : Type 0 where
  pub whole : length l ≡ 3 * vectors l
  pub two : 2 ≤ vectors l

-- the neighbour after i of n, the last its own; before i stands i - 1, and 0 - 1 is 0
abbrev pub after : ℕ → ℕ → ℕ
after n i = cond (ltb (i + 1) n) (i + 1) i

-- guide i after a pass: the Rust's smooth_guides, where an end is its own neighbour, 'if i > 0 { prev[i - 1] } else { prev[i] }'
abbrev pub guide_after : ℕ → List Float → ℕ → Vec3
guide_after n old i = smooth_guide (vec_at old (i - 1)) (vec_at old i) (vec_at old (after n i))

unfoldable pub guide_pass : ℕ → List Float → List Float
guide_pass n old = floats_of (guide_after n old) n

-- 01: 'ends fixed'; the Rust's smooth_positions: 'Skip i=0 and i=n-1 so the endpoints stay pinned'
abbrev pub at_end : ℕ → ℕ → Bool
at_end n i = eqb i 0 || eqb (i + 1) n

-- position i after a pass: at an end the old one
abbrev pub position_after : ℕ → List Float → ℕ → Vec3
position_after n old i = cond (at_end n i) (vec_at old i) (smooth_position (vec_at old (i - 1)) (vec_at old i) (vec_at old (i + 1)))

unfoldable pub position_pass : ℕ → List Float → List Float
position_pass n old = floats_of (position_after n old) n

-- the Rust: 'for _ in 0..passes', each over the list as the one before left it
unfoldable pub repeated : (List Float → List Float) → ℕ → List Float → List Float
repeated pass zero l = l
repeated pass (suc k) l = pass (repeated pass k l)

unfoldable pub smooth_guides : ℕ → ℕ → List Float → List Float
smooth_guides passes n g = repeated (guide_pass n) passes g

unfoldable pub smooth_positions : ℕ → ℕ → List Float → List Float
smooth_positions passes n p = repeated (position_pass n) passes p
