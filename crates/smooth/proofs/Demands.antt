-- What 02 §3 asks, as theorems: 'smooth_guides and smooth_positions clone the list at every pass. Keep only the
-- previous neighbour's old value. Results .. stay.' Of a lent list l of n vectors the two functions leave
-- `smooth_guides passes n l` and `smooth_positions passes n l`: their contracts, in src/, say so. The definitions are
-- those of specs/Pass (what a pass leaves) and specs/Turns (two ways to run one). Assumes nothing.
use mathlib.Core.Path.{◌≡◌}
use mathlib.Core.List.{List}
use Prim.Native.Nat.{ℕ, ◌+◌, ◌*◌, ◌-◌, ◌<◌, ◌≤◌}
use lib.ListN.{length}
use lib.Ieee.{Float}
use Rattle.vectors.specs.Vec.{vec_at}
use Rattle.shape.specs.Guide.{smooth_guide, smooth_position}
use Rattle.smooth.specs.Pass.{guide_pass, position_pass, smooth_guides, smooth_positions}
use Rattle.smooth.specs.Turns.{Rule, over_clone, rust_guides, rust_positions, begun, turns}
use Rattle.smooth.proofs.Laws as laws

-- ---- in place is over a clone

-- of any rule, from any residue on, and after every turn: the list is the same, and what is kept is the clone's
pub in_place_is_over_a_clone : (rule : Rule) (n a k : ℕ) (l : List Float)
    → ((turns rule n a k (begun a l)).list ≡ over_clone rule n a k l)
    × ((turns rule n a k (begun a l)).kept ≡ vec_at l (a + k - 1))
in_place_is_over_a_clone rule n a k l = laws.in_place rule n a l k

-- a pass keeps one vector besides its list: from the Rust's list after j turns and the one old vector, with no clone,
-- k turns more leave the Rust's list after j + k
pub one_vector_is_enough : (rule : Rule) (n a j k : ℕ) (l : List Float)
    → (turns rule n (a + j) k (record { list = over_clone rule n a j l; kept = vec_at l (a + j - 1) })).list
    ≡ over_clone rule n a (j + k) l
one_vector_is_enough rule n a j k l = laws.enough rule n a l j k

-- ---- results stay: what the functions leave is what the Rust's loops leave, as specs/Turns writes them down

pub guides_are_the_rusts : (passes n : ℕ) (l : List Float) → length l ≡ 3 * n
    → smooth_guides passes n l ≡ rust_guides passes n l
guides_are_the_rusts passes n l h = laws.guides_rust passes n l h

pub positions_are_the_rusts : (passes n : ℕ) (l : List Float) → length l ≡ 3 * n
    → smooth_positions passes n l ≡ rust_positions passes n l
positions_are_the_rusts passes n l h = laws.positions_rust passes n l h

-- a list keeps its length
pub lengths_stay : (passes n : ℕ) (l : List Float) → length l ≡ 3 * n
    → (length (smooth_guides passes n l) ≡ 3 * n) × (length (smooth_positions passes n l) ≡ 3 * n)
lengths_stay passes n l h = (laws.long_guides passes n l h, laws.long_positions passes n l h)

-- ---- a pass, residue by residue: each new vector is a function of three old ones

-- before residue 0 stands residue 0, since 0 - 1 is 0 here
pub guide_by_residue : (n i : ℕ) (old : List Float) → i + 1 < n
    → vec_at (guide_pass n old) i ≡ smooth_guide (vec_at old (i - 1)) (vec_at old i) (vec_at old (i + 1))
guide_by_residue n i old h = laws.inner_guide n i old h

-- at an end a guide is its own neighbour; of the first this is guide-by-residue at 0, spelt out
pub guide_ends : (n : ℕ) (old : List Float) → 2 ≤ n
    → (vec_at (guide_pass n old) 0 ≡ smooth_guide (vec_at old 0) (vec_at old 0) (vec_at old 1))
    × (vec_at (guide_pass n old) (n - 1) ≡ smooth_guide (vec_at old (n - 2)) (vec_at old (n - 1)) (vec_at old (n - 1)))
guide_ends n old h = (laws.first_guide n old h, laws.last_guide n old h)

pub position_by_residue : (n i : ℕ) (old : List Float) → 0 < i → i + 1 < n
    → vec_at (position_pass n old) i ≡ smooth_position (vec_at old (i - 1)) (vec_at old i) (vec_at old (i + 1))
position_by_residue n i old b h = laws.inner_position n i old b h

-- both ends of the positions stay, however many passes there are
pub ends_stay : (passes n : ℕ) (l : List Float) → 1 ≤ n
    → (vec_at (smooth_positions passes n l) 0 ≡ vec_at l 0)
    × (vec_at (smooth_positions passes n l) (n - 1) ≡ vec_at l (n - 1))
ends_stay passes n l h = (laws.first_stays passes n l h, laws.last_stays passes n l h)
