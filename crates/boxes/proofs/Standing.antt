-- A tube's box in the buffers: what proofs/Boxes says of a list, of the vertices from v up to v + m of positions P and box k of boxes B. Assumes nothing.
use mathlib.Core.Path.{◌≡◌, sym, ◌∙◌}
use mathlib.Core.Bool.{true, false}
use mathlib.Core.List.{List}
use Prim.Native.Nat.{ℕ, ◌+◌, ◌-◌, ◌*◌, ◌≤◌, ◌<◌}
use native.Mathlib.Omega.{arith}
use lib.ListN.{length, take, drop, get_or}
use lib.Ieee.{Float, nan, lt, eq, le, is_nan}
use Rattle.lists.proofs.Any.{part_place}
use Rattle.boxes.specs.Box.{box_of}
use Rattle.boxes.proofs.Foremost.{First}
use Rattle.boxes.proofs.Boxes.{holds, touched, nan_shows, between, apart}

-- the flat vertices xs, m of them and at least one, stand in P from vertex v on, and the box of xs is box k of B
pub record Boxed (xs P B : List Float) (v m k : ℕ) : Type 0 where
  pub nonempty : 0 < m
  pub size : length xs ≡ 3 * m
  pub vertices : take (3 * m) (drop (3 * v) P) ≡ xs
  pub box : take 6 (drop (6 * k) B) ≡ box_of xs

-- w is coordinate a of a vertex j of P, one of those from v up to v + m, and no coordinate of those ahead of j equals it
abbrev pub Touched : List Float → ℕ → ℕ → ℕ → Float → Type 0
Touched P v m a w =
    (j : ℕ) × (v ≤ j) × (j < v + m) × (get_or P (3 * j + a) nan ≡ w) × ((i : ℕ) → v ≤ i → i < j → eq (get_or P (3 * i + a) nan) w ≡ false)

module _ {xs P B : List Float} {v m k : ℕ} (t : Boxed xs P B v m k) (a : ℕ) (axis : a < 3) where
  vertex : (j : ℕ) → v ≤ j → j < v + m → get_or xs (3 * (j - v) + a) nan ≡ get_or P (3 * j + a) nan
  vertex j p q =
      let e : 3 * v + (3 * (j - v) + a) ≡ 3 * j + a = omega arith in
      sym (rw e at (part_place P (3 * v) (3 * m) (3 * (j - v) + a) nan t.vertices (omega arith)))

  first : get_or xs a nan ≡ get_or P (3 * v + a) nan
  first = sym (part_place P (3 * v) (3 * m) a nan t.vertices (omega (arith, t.nonempty)))

  low : get_or (box_of xs) a nan ≡ get_or B (6 * k + a) nan
  low = sym (part_place B (6 * k) 6 a nan t.box (omega arith))

  high : get_or (box_of xs) (3 + a) nan ≡ get_or B (6 * k + 3 + a) nan
  high = let e : 6 * k + (3 + a) ≡ 6 * k + 3 + a = omega arith in sym (rw e at (part_place B (6 * k) 6 (3 + a) nan t.box (omega arith)))

  -- no vertex lies outside
  pub tube_holds : (j : ℕ) → v ≤ j → j < v + m → (lt (get_or P (3 * j + a) nan) (get_or B (6 * k + a) nan) ≡ false)
      × (lt (get_or B (6 * k + 3 + a) nan) (get_or P (3 * j + a) nan) ≡ false)
  tube_holds j p q = rw (vertex j p q, low, high) at (holds xs m t.size a axis (j - v) (omega arith))

  -- each side is a vertex's coordinate, the first of its equals
  pub tube_touched : Touched P v m a (get_or B (6 * k + a) nan) × Touched P v m a (get_or B (6 * k + 3 + a) nan)
  tube_touched =
      let f = touched xs m t.size a axis t.nonempty in
      (rw low at (there (get_or (box_of xs) a nan) f.0), rw high at (there (get_or (box_of xs) (3 + a) nan) f.1))
    where
      there : (w : Float) → First (λ (i : ℕ). get_or xs (3 * i + a) nan) m w → Touched P v m a w
      there w f =
          let e : v + f.0 - v ≡ f.0 = omega arith in
          let h : v + f.0 < v + m = omega (arith, f.1) in
          let x : get_or P (3 * (v + f.0) + a) nan ≡ w = sym (rw e at (vertex (v + f.0) (omega arith) h)) ∙ f.2 in
          (v + f.0, omega arith, h, x, λ i p q. rw (vertex i p (omega arith)) at (f.3 (i - v) (omega arith)))

  -- each side is a NaN exactly where the coordinate of the tube's first vertex is one
  pub tube_nan : (is_nan (get_or B (6 * k + a) nan) ≡ is_nan (get_or P (3 * v + a) nan)) × (is_nan (get_or B (6 * k + 3 + a) nan) ≡ is_nan (get_or P (3 * v + a) nan))
  tube_nan = rw (first, low, high) at (nan_shows xs m t.size a axis t.nonempty)

  -- where that one is no NaN, any other that is none lies between the sides
  pub tube_between : (j : ℕ) → v ≤ j → j < v + m → is_nan (get_or P (3 * v + a) nan) ≡ false → is_nan (get_or P (3 * j + a) nan) ≡ false
      → (le (get_or B (6 * k + a) nan) (get_or P (3 * j + a) nan) ≡ true) × (le (get_or P (3 * j + a) nan) (get_or B (6 * k + 3 + a) nan) ≡ true)
  tube_between j p q n x = rw (vertex j p q, low, high) at (between xs m t.size a axis (j - v) (omega arith) (rw first n) (rw (vertex j p q) x))

-- where on axis a the box of one tube ends before that of another begins, no vertex of the one equals one of the other there or lies behind it
pub tubes_apart : {xs P B xs' P' B' : List Float} {v m k v' m' k' : ℕ} → Boxed xs P B v m k → Boxed xs' P' B' v' m' k' → (a : ℕ) → a < 3
    → lt (get_or B (6 * k + 3 + a) nan) (get_or B' (6 * k' + a) nan) ≡ true → (j j' : ℕ) → v ≤ j → j < v + m → v' ≤ j' → j' < v' + m'
    → (eq (get_or P (3 * j + a) nan) (get_or P' (3 * j' + a) nan) ≡ false) × (lt (get_or P' (3 * j' + a) nan) (get_or P (3 * j + a) nan) ≡ false)
    × (is_nan (get_or P (3 * j + a) nan) ≡ false → is_nan (get_or P' (3 * j' + a) nan) ≡ false → lt (get_or P (3 * j + a) nan) (get_or P' (3 * j' + a) nan) ≡ true)
tubes_apart {xs} {P} {B} {xs'} {P'} {B'} {v} {m} {k} {v'} {m'} {k'} t t' a axis h j j' p q p' q' =
    rw (vertex t a axis j p q, vertex t' a axis j' p' q')
    at (apart xs m xs' m' t.size t'.size a axis (rw (high t a axis, low t' a axis) h) (j - v) (j' - v') (omega arith) (omega arith))
