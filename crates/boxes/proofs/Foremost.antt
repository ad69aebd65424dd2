-- What `foremost_of before l` is, for an order `before` of floats: nothing in l comes before it, it stands in l, and nothing ahead of it equals it. A NaN at the front
-- stays, any other is passed over. Assumes nothing.
use mathlib.Core.Path.{◌≡◌, refl, sym, ◌∙◌}
use mathlib.Core.Bool.{Bool, true, false, cond}
use mathlib.Core.List.{List, [], ◌∷◌}
use mathlib.Core.Logic.{◌⊎◌, inl, inr}
use Prim.Native.Nat.{ℕ, zero, suc, ◌<◌}
use native.Mathlib.Omega.{arith}
use borrow.Author.Tests.{ltb-true, ltb-false}
use lib.Dec.{ltb}
use lib.ListN.{length, get_or}
use lib.Ieee.{Float, nan, lt, eq, is_nan}
use Rattle.lists.proofs.Bools.{clash}
use Rattle.order.proofs.Order.{lt_trans, lt_irreflexive, lt_numbers, lt_eq, eq_lt, eq_sym, neither_lt}
use Rattle.boxes.specs.Box.{foremost, foremost_of, more}

-- an order of floats: equals stand where their equals do, and a NaN before nothing and behind nothing
pub record Order (before : Float → Float → Bool) : Type 0 where
  pub irreflexive : (x : Float) → before x x ≡ false
  pub trans : (x y z : Float) → before x y ≡ true → before y z ≡ true → before x z ≡ true
  pub equal : (x y z : Float) → eq x y ≡ true → before y z ≡ true → before x z ≡ true
  pub numbers : (x y : Float) → before x y ≡ true → (is_nan x ≡ false) × (is_nan y ≡ false)
  pub neither : (x y : Float) → is_nan x ≡ false → is_nan y ≡ false → before x y ≡ false → before y x ≡ false → eq x y ≡ true

pub lt_order : Order lt
lt_order = record { irreflexive = lt_irreflexive; trans = lt_trans; equal = eq_lt; numbers = lt_numbers; neither = neither_lt }

pub more_order : Order more
more_order =
    record {
      irreflexive = lt_irreflexive;
      trans = λ x y z h k. lt_trans z y x k h;
      equal = λ x y z h k. lt_eq z y x k (eq_sym x y h);
      numbers = λ x y h. let n = lt_numbers y x h in (n.1, n.0);
      neither = λ x y p q h k. neither_lt x y p q k h;
    }

-- w is one of n floats, and none of them ahead of it equals it
abbrev pub First : (ℕ → Float) → ℕ → Float → Type 0
First x n w = (k : ℕ) × (k < n) × (x k ≡ w) × ((j : ℕ) → j < k → eq (x j) w ≡ false)

-- of a list
abbrev pub FirstIn : List Float → Float → Type 0
FirstIn l w = First (λ (k : ℕ). get_or l k nan) (length l) w

first_behind : (y : Float) (l : List Float) (w : Float) → eq y w ≡ false → FirstIn l w → FirstIn (y ∷ l) w
first_behind y l w h f = (suc f.0, omega (arith, f.1), f.2, ahead)
  where
    ahead : (j : ℕ) → j < suc f.0 → eq (get_or (y ∷ l) j nan) w ≡ false
    ahead zero k = h
    ahead (suc j) k = f.3 j (omega arith)

-- two that are first and equal are one
one_first : (l : List Float) (w x : Float) → FirstIn l w → FirstIn l x → eq x w ≡ true → x ≡ w
one_first l w x f g h = go (ltb f.0 g.0) refl (ltb g.0 f.0) refl
  where
    go : (t : Bool) → ltb f.0 g.0 ≡ t → (u : Bool) → ltb g.0 f.0 ≡ u → x ≡ w
    go true p u q = clash (eq_sym x w h) (rw f.2 at (g.3 f.0 (ltb-true f.0 g.0 p)))
    go false p true q = clash h (rw g.2 at (f.3 g.0 (ltb-true g.0 f.0 q)))
    go false p false q = let e : f.0 ≡ g.0 = omega (arith, ltb-false f.0 g.0 p, ltb-false g.0 f.0 q) in sym g.2 ∙ rw (← e) f.2

module _ (before : Float → Float → Bool) (o : Order before) where
  -- what is kept of x and then l: x, or one of l that comes before x
  abbrev Kept : Float → List Float → Float → Type 0
  Kept x l w = (w ≡ x) ⊎ (FirstIn l w × (before w x ≡ true))

  -- what does not come before x does not equal what does
  unequal : (x y w : Float) → before w x ≡ true → before y x ≡ false → eq y w ≡ false
  unequal x y w b h = go (eq y w) refl
    where
      go : (t : Bool) → eq y w ≡ t → t ≡ false
      go true e = clash (o.equal y w x e b) h
      go false e = refl

  kept : (x : Float) (l : List Float) → Kept x l (foremost before x l)
  unfolding foremost
  kept x [] = inl refl
  kept x (y ∷ l) = go (before y x) refl (kept y l) (kept x l)
    where
      taken : (w : Float) → before y x ≡ true → Kept y l w → Kept x (y ∷ l) w
      taken w e (inl p) = inr ((0, omega arith, sym p, λ j h. absurd (omega arith)), rw p e)
      taken w e (inr p) = inr (first_behind y l w (unequal y y w p.1 (o.irreflexive y)) p.0, o.trans w y x p.1 e)

      left : (w : Float) → before y x ≡ false → Kept x l w → Kept x (y ∷ l) w
      left w e (inl p) = inl p
      left w e (inr p) = inr (first_behind y l w (unequal x y w p.1 e) p.0, p.1)

      go : (t : Bool) → before y x ≡ t → Kept y l (foremost before y l) → Kept x l (foremost before x l) → Kept x (y ∷ l) (foremost before (cond t y x) l)
      go true e p q = taken (foremost before y l) e p
      go false e p q = left (foremost before x l) e q

  -- what does not come before x does not come before what is kept of x and more
  still : (x : Float) (l : List Float) (z : Float) → before z x ≡ false → before z (foremost before x l) ≡ false
  still x l z h = go (foremost before x l) (kept x l)
    where
      go : (w : Float) → Kept x l w → before z w ≡ false
      go w (inl p) = rw p h
      go w (inr p) = no (before z w) refl
        where
          no : (t : Bool) → before z w ≡ t → t ≡ false
          no true e = clash (o.trans z w x e p.1) h
          no false e = refl

  behind : (x : Float) (l : List Float) (k : ℕ) → k < length (x ∷ l) → before (get_or (x ∷ l) k nan) (foremost before x l) ≡ false
  unfolding foremost
  behind x l zero h = still x l x (o.irreflexive x)
  behind x [] (suc k) h = absurd (omega arith)
  behind x (y ∷ l) (suc zero) h = still (cond (before y x) y x) l y (go (before y x) refl)
    where
      go : (t : Bool) → before y x ≡ t → before y (cond t y x) ≡ false
      go true e = o.irreflexive y
      go false e = e
  behind x (y ∷ l) (suc (suc k)) h = behind (cond (before y x) y x) l (suc k) (omega arith)

  -- nothing in the list comes before it
  pub none_before : (l : List Float) (k : ℕ) → k < length l → before (get_or l k nan) (foremost_of before l) ≡ false
  unfolding foremost_of
  none_before [] k h = absurd (omega arith)
  none_before (x ∷ l) k h = behind x l k h

  -- it stands in the list, and nothing ahead of it equals it
  pub stands_first : (l : List Float) → 0 < length l → FirstIn l (foremost_of before l)
  unfolding foremost_of
  stands_first [] h = absurd (omega arith)
  stands_first (x ∷ l) h = go (foremost before x l) (kept x l)
    where
      go : (w : Float) → Kept x l w → FirstIn (x ∷ l) w
      go w (inl p) = (0, omega arith, sym p, λ j h. absurd (omega arith))
      go w (inr p) = first_behind x l w (unequal x x w p.1 (o.irreflexive x)) p.0

  -- it is a NaN exactly where the first of the list is one
  pub nan_kept : (l : List Float) → 0 < length l → is_nan (foremost_of before l) ≡ is_nan (get_or l 0 nan)
  unfolding foremost_of
  nan_kept [] h = absurd (omega arith)
  nan_kept (x ∷ l) h = go (foremost before x l) (kept x l)
    where
      go : (w : Float) → Kept x l w → is_nan w ≡ is_nan x
      go w (inl p) = rw p
      go w (inr p) = let n = o.numbers w x p.1 in n.0 ∙ sym n.1

  -- and it alone is such, where the first of the list is no NaN: so it is the least by the order, the earlier of equals kept
  pub only : (l : List Float) (x : Float) → is_nan (get_or l 0 nan) ≡ false → is_nan x ≡ false → FirstIn l x
      → ((k : ℕ) → k < length l → before (get_or l k nan) x ≡ false) → x ≡ foremost_of before l
  only l x p q f h =
      let k : 0 < length l = omega (arith, f.1) in
      let w = stands_first l k in
      let n = nan_kept l k ∙ p in
      one_first l (foremost_of before l) x w f
      (o.neither x (foremost_of before l) q n (rw f.2 at (none_before l f.0 f.1)) (rw w.2 at (h w.0 w.1)))
