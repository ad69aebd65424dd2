-- The box of a flat list of vertices, axis by axis: no vertex lies outside it, each side is a vertex's coordinate, a NaN shows where the first vertex has one, and
-- boxes that lie apart are of vertices that do. Assumes nothing.
use mathlib.Core.Path.{◌≡◌, refl, ◌∙◌}
use mathlib.Core.Bool.{Bool, true, false}
use mathlib.Core.List.{List, [], ◌∷◌}
use Prim.Native.Nat.{ℕ, zero, suc, ◌+◌, ◌*◌, ◌/◌, ◌<◌}
use native.Mathlib.Omega.{arith}
use lib.ListN.{length, get_or}
use lib.Ieee.{Float, nan, lt, eq, le, is_nan}
use Rattle.lists.proofs.Puts.{length_each, upto_at}
use Rattle.order.proofs.Order.{lt_not, lt_not_eq, lt_numbers, eq_numbers, not_lt, not_lt_trans, le_lt, lt_le}
use Rattle.boxes.specs.Box.{along, foremost_of, more, least, greatest, box_of}
use Rattle.boxes.proofs.Laws.{third}
use Rattle.boxes.proofs.Foremost.{Order, lt_order, more_order, First, none_before, stands_first, nan_kept}

-- the sides of a box, on axis a
pub box_least : (l : List Float) (a : ℕ) → a < 3 → get_or (box_of l) a nan ≡ least (along a l)
unfolding box_of
box_least l zero h = refl
box_least l (suc zero) h = refl
box_least l (suc (suc zero)) h = refl
box_least l (suc (suc (suc a))) h = absurd (omega arith)

pub box_greatest : (l : List Float) (a : ℕ) → a < 3 → get_or (box_of l) (3 + a) nan ≡ greatest (along a l)
unfolding box_of
box_greatest l zero h = refl
box_greatest l (suc zero) h = refl
box_greatest l (suc (suc zero)) h = refl
box_greatest l (suc (suc (suc a))) h = absurd (omega arith)

-- a list of m vertices
module _ (l : List Float) (m : ℕ) (size : length l ≡ 3 * m) where
  thirds : length l / 3 ≡ m
  thirds = third m size

  pub length_along : (a : ℕ) → length (along a l) ≡ m
  unfolding along
  length_along a = length_each (λ (k : ℕ). get_or l (3 * k + a) nan) (length l / 3) ∙ thirds

  pub along_at : (a k : ℕ) → k < m → get_or (along a l) k nan ≡ get_or l (3 * k + a) nan
  unfolding along
  along_at a k h =
      let e : k * 1 + 0 ≡ k = omega arith in
      rw e at (upto_at (λ (k : ℕ). get_or l (3 * k + a) nan ∷ []) 1 (length l / 3) k 0 nan (λ k. refl) (rw thirds h) (omega arith))

  -- the coordinates on axis a, by either order
  module _ (before : Float → Float → Bool) (o : Order before) (a : ℕ) where
    none_ahead : (k : ℕ) → k < m → before (get_or l (3 * k + a) nan) (foremost_of before (along a l)) ≡ false
    none_ahead k h = rw (along_at a k h) at (none_before before o (along a l) k (rw (length_along a) h))

    first_there : 0 < m → First (λ (k : ℕ). get_or l (3 * k + a) nan) m (foremost_of before (along a l))
    first_there h =
        let f = stands_first before o (along a l) (rw (length_along a) h) in
        let k : f.0 < m = rw (length_along a) at f.1 in
        (f.0, k, rw (along_at a f.0 k) at f.2, λ j i. rw (along_at a j (omega arith)) at (f.3 j i))

    nan_there : 0 < m → is_nan (foremost_of before (along a l)) ≡ is_nan (get_or l a nan)
    nan_there h =
        let e : 3 * 0 + a ≡ a = omega arith in
        rw (along_at a 0 h, e) at (nan_kept before o (along a l) (rw (length_along a) h))

  module _ (a : ℕ) (axis : a < 3) where
    -- no vertex lies outside
    pub holds : (k : ℕ) → k < m → (lt (get_or l (3 * k + a) nan) (get_or (box_of l) a nan) ≡ false)
        × (lt (get_or (box_of l) (3 + a) nan) (get_or l (3 * k + a) nan) ≡ false)
    holds k h = (rw (box_least l a axis) (none_ahead lt lt_order a k h), rw (box_greatest l a axis) (none_ahead more more_order a k h))

    -- each side is a vertex's coordinate, the first of its equals
    pub touched : 0 < m → First (λ (k : ℕ). get_or l (3 * k + a) nan) m (get_or (box_of l) a nan)
        × First (λ (k : ℕ). get_or l (3 * k + a) nan) m (get_or (box_of l) (3 + a) nan)
    touched h = (rw (box_least l a axis) (first_there lt lt_order a h), rw (box_greatest l a axis) (first_there more more_order a h))

    -- each side is a NaN exactly where the first vertex's coordinate is one
    pub nan_shows : 0 < m → (is_nan (get_or (box_of l) a nan) ≡ is_nan (get_or l a nan)) × (is_nan (get_or (box_of l) (3 + a) nan) ≡ is_nan (get_or l a nan))
    nan_shows h = (rw (box_least l a axis) (nan_there lt lt_order a h), rw (box_greatest l a axis) (nan_there more more_order a h))

    -- where the first vertex's coordinate is no NaN, any other that is none lies between the sides
    pub between : (k : ℕ) → k < m → is_nan (get_or l a nan) ≡ false → is_nan (get_or l (3 * k + a) nan) ≡ false
        → (le (get_or (box_of l) a nan) (get_or l (3 * k + a) nan) ≡ true) × (le (get_or l (3 * k + a) nan) (get_or (box_of l) (3 + a) nan) ≡ true)
    between k h p q =
        let n = nan_shows (omega arith) in
        let x = get_or l (3 * k + a) nan in
        (not_lt x (get_or (box_of l) a nan) q (n.0 ∙ p) (holds k h).0, not_lt (get_or (box_of l) (3 + a) nan) x (n.1 ∙ p) q (holds k h).1)

-- where g is less than s, what is not above g and what is not below s lie apart
module _ (x g s y : Float) (h : lt g s ≡ true) (p : lt g x ≡ false) (q : lt y s ≡ false) where
  apart_lt : is_nan x ≡ false → is_nan y ≡ false → lt x y ≡ true
  apart_lt nx ny =
      let n = lt_numbers g s h in
      lt_le x s y (le_lt x g s (not_lt g x n.0 nx p) h) (not_lt y s ny n.1 q)

  apart_all : (eq x y ≡ false) × (lt y x ≡ false) × (is_nan x ≡ false → is_nan y ≡ false → lt x y ≡ true)
  apart_all = (go (eq x y) refl, not_lt_trans y s x n.1 q (not_lt_trans s g x n.0 (lt_not g s h) p), apart_lt)
    where
      n : (is_nan g ≡ false) × (is_nan s ≡ false)
      n = lt_numbers g s h

      go : (t : Bool) → eq x y ≡ t → eq x y ≡ false
      go true e = let n = eq_numbers x y e in lt_not_eq x y (apart_lt n.0 n.1)
      go false e = e

-- where on axis a one box ends before the other begins, no vertex of the one equals one of the other there or lies behind it
pub apart : (l : List Float) (m : ℕ) (l' : List Float) (m' : ℕ) → length l ≡ 3 * m → length l' ≡ 3 * m' → (a : ℕ) → a < 3
    → lt (get_or (box_of l) (3 + a) nan) (get_or (box_of l') a nan) ≡ true → (k k' : ℕ) → k < m → k' < m'
    → (eq (get_or l (3 * k + a) nan) (get_or l' (3 * k' + a) nan) ≡ false) × (lt (get_or l' (3 * k' + a) nan) (get_or l (3 * k + a) nan) ≡ false)
    × (is_nan (get_or l (3 * k + a) nan) ≡ false → is_nan (get_or l' (3 * k' + a) nan) ≡ false → lt (get_or l (3 * k + a) nan) (get_or l' (3 * k' + a) nan) ≡ true)
apart l m l' m' s s' a axis h k k' i i' =
    apart_all (get_or l (3 * k + a) nan) (get_or (box_of l) (3 + a) nan) (get_or (box_of l') a nan) (get_or l' (3 * k' + a) nan) h
    (holds l m s a axis k i).1 (holds l' m' s' a axis k' i').0
