-- The two ways to run a pass that 02 §3 sets side by side: the Rust's, which clones the list, and ours, in the list itself. They are what
-- the theorems of proofs/Demands and the loops' invariants speak of; no contract names them.
use Rattle.std.specs.Prelude.{List, ℕ, zero, suc, ◌+◌, ◌*◌, ◌-◌, Float}
use Rattle.vectors.specs.declared.Vec3.{Vec3}
use Rattle.vectors.specs.Vec.{floats, vec_at}
use Rattle.lists.specs.Put.{put}
use Rattle.shape.specs.Guide.{smooth_guide, smooth_position}
use Rattle.smooth.specs.Pass.{after, repeated}

-- a vector's new value, from the vector before it, itself and the vector after it
abbrev pub Rule : Type 0
Rule = Vec3 → Vec3 → Vec3 → Vec3

-- The Rust: 'let prev = g.clone();', and then, for k turns from residue a on, 'g[i] = ..' of prev alone. Here l is prev, and g at the start.
-- (The Rust's prev is the whole clone; prev in src/ is one vector.)
unfoldable pub over_clone : Rule → ℕ → ℕ → ℕ → List Float → List Float
over_clone rule n a zero l = l
over_clone rule n a (suc k) l =
    put (over_clone rule n a k l) (3 * (a + k)) (floats (rule (vec_at l (a + k - 1)) (vec_at l (a + k)) (vec_at l (after n (a + k)))))

-- the Rust's two functions, by their loops and our rules: guides are 'for i in 0..n', positions 'for i in 1..n - 1'
unfoldable pub rust_guides : ℕ → ℕ → List Float → List Float
rust_guides passes n l = repeated (over_clone smooth_guide n 0 n) passes l

unfoldable pub rust_positions : ℕ → ℕ → List Float → List Float
rust_positions passes n l = repeated (over_clone smooth_position n 1 (n - 2)) passes l

-- 02 §3: 'Keep only the previous neighbour's old value': all that a pass in place carries from turn to turn,
-- besides the residue's number
pub record Underway : Type 0 where
  pub list : List Float
  pub kept : Vec3

-- before the first turn, at residue a: the vector before it is kept; before residue 0 that is its own, since 0 - 1 is 0
abbrev pub begun : ℕ → List Float → Underway
begun a l = record { list = l; kept = vec_at l (a - 1) }

-- a turn: vector i of the list gets its new value, and its old one is kept
unfoldable pub turn_at : Rule → ℕ → ℕ → Underway → Underway
turn_at rule n i h = record {
  list = put h.list (3 * i) (floats (rule h.kept (vec_at h.list i) (vec_at h.list (after n i))));
  kept = vec_at h.list i;
}

-- k turns from residue a on
unfoldable pub turns : Rule → ℕ → ℕ → ℕ → Underway → Underway
turns rule n a zero h = h
turns rule n a (suc k) h = turn_at rule n (a + k) (turns rule n a k h)
