-- Laws of numbering by first appearance. Assumes nothing.
use Prim.Native.Nat.{ℕ, zero, suc, ◌<◌, ◌≤◌}
use mathlib.Core.Bool.{Bool, true, false, ◌||◌, cond, or_assoc, or-false, or-true}
use mathlib.Core.Path.{◌≡◌, refl, sym, ap, ◌∙◌, subst}
use mathlib.Core.List.{List, [], ◌∷◌, ◌++◌, append_assoc, append-nil}
use native.Mathlib.Omega.{arith}
use lib.Dec.{eqb}
use lib.ListN.{length, get_or, length-append}
use borrow.Author.Tests.{eqb-true, eq-eqb}
use Rattle.appearance.specs.Order.{member, place, add, distinct, order}

pub member_append : (x : ℕ) (a b : List ℕ) → member x (a ++ b) ≡ (member x a || member x b)
unfolding member
member_append x [] b = refl
member_append x (y ∷ a) b = ap (λ (t : Bool). eqb x y || t) (member_append x a b) ∙ sym (or_assoc (eqb x y) (member x a) (member x b))

pub distinct_append : (s a b : List ℕ) → distinct s (a ++ b) ≡ distinct (distinct s a) b
unfolding distinct
distinct_append s [] b = refl
distinct_append s (x ∷ a) b = distinct_append (add s x) a b

-- the same key twice is once
member_same : (x k : ℕ) (l : List ℕ) → member k l ≡ true → eqb x k ≡ true → member x l ≡ true
member_same x k l m e = subst (λ (y : ℕ). member y l ≡ true) (sym (eqb-true x k e)) m

member_add : (x k : ℕ) (s : List ℕ) → member x (add s k) ≡ (member x s || eqb x k)
unfolding member
member_add x k s = go (member k s) refl
  where
    step : (b : Bool) → eqb x k ≡ b → member k s ≡ true → member x s ≡ (member x s || b)
    step true e m = member_same x k s m e ∙ sym (or-true (member x s))
    step false e m = sym (or-false (member x s))

    go : (b : Bool) → member k s ≡ b → member x (cond b s (s ++ (k ∷ []))) ≡ (member x s || eqb x k)
    go true m = step (eqb x k) refl m
    go false m = member_append x s (k ∷ []) ∙ ap (λ (t : Bool). member x s || t) (or-false (eqb x k))

pub member_distinct : (x : ℕ) (s a : List ℕ) → member x (distinct s a) ≡ (member x s || member x a)
unfolding distinct member
member_distinct x s [] = sym (or-false (member x s))
member_distinct x s (k ∷ a) =
    member_distinct x (add s k) a ∙ ap (λ (t : Bool). t || member x a) (member_add x k s) ∙ or_assoc (member x s) (eqb x k) (member x a)

pub place_append : (x : ℕ) (a b : List ℕ) → member x a ≡ true → place x (a ++ b) ≡ place x a
unfolding member place
place_append x [] b m = absurd (let z : ◌≡◌ {A = ℕ} 0 1 = cc in omega arith)
place_append x (y ∷ a) b m = go (eqb x y) m (λ m. place_append x a b m)
  where
    go : (t : Bool) → (t || member x a) ≡ true → (member x a ≡ true → place x (a ++ b) ≡ place x a) → cond t 0 (suc (place x (a ++ b))) ≡ cond t 0 (suc (place x a))
    go true m f = refl
    go false m f = ap suc (f m)

pub place_new : (x : ℕ) (a b : List ℕ) → member x a ≡ false → place x (a ++ (x ∷ b)) ≡ length a
unfolding member place
place_new x [] b m = simp (eq-eqb x x refl)
place_new x (y ∷ a) b m = go (eqb x y) m (λ m. place_new x a b m)
  where
    go : (t : Bool) → (t || member x a) ≡ false → (member x a ≡ false → place x (a ++ (x ∷ b)) ≡ length a) → cond t 0 (suc (place x (a ++ (x ∷ b)))) ≡ suc (length a)
    go true m f = absurd (let z : ◌≡◌ {A = ℕ} 0 1 = cc in omega arith)
    go false m f = ap suc (f m)

-- what is seen stays in front
pub extra : List ℕ → List ℕ → List ℕ
extra s [] = []
extra s (x ∷ l) = cond (member x s) (extra s l) (x ∷ extra (s ++ (x ∷ [])) l)

pub distinct_front : (s l : List ℕ) → distinct s l ≡ s ++ extra s l
unfolding distinct extra
distinct_front s [] = sym (append-nil s)
distinct_front s (x ∷ l) = go (member x s) (distinct_front s l) (distinct_front (s ++ (x ∷ [])) l)
  where
    go : (b : Bool) → distinct s l ≡ s ++ extra s l → distinct (s ++ (x ∷ [])) l ≡ (s ++ (x ∷ [])) ++ extra (s ++ (x ∷ [])) l
        → distinct (cond b s (s ++ (x ∷ []))) l ≡ s ++ cond b (extra s l) (x ∷ extra (s ++ (x ∷ [])) l)
    go true e f = e
    go false e f = f ∙ append_assoc s (x ∷ []) (extra (s ++ (x ∷ [])) l)

-- more keys in a list, no fewer in its order
pub order_grows : (a b : List ℕ) → length (order a) ≤ length (order (a ++ b))
order_grows a b = rw (distinct_append [] a b, distinct_front (order a) b, length-append) (omega arith)

-- ---- places
pub place_lt : (x : ℕ) (l : List ℕ) → member x l ≡ true → place x l < length l
unfolding member place
place_lt x [] m = absurd (let z : ◌≡◌ {A = ℕ} 0 1 = cc in omega arith)
place_lt x (y ∷ l) m = go (eqb x y) m (λ m. place_lt x l m)
  where
    go : (b : Bool) → (b || member x l) ≡ true → (member x l ≡ true → place x l < length l) → cond b 0 (suc (place x l)) < suc (length l)
    go true m f = omega arith
    go false m f = omega (arith, f m)

pub place_at : (x : ℕ) (l : List ℕ) → member x l ≡ true → get_or l (place x l) 0 ≡ x
unfolding member place
place_at x [] m = absurd (let z : ◌≡◌ {A = ℕ} 0 1 = cc in omega arith)
place_at x (y ∷ l) m = go (eqb x y) refl m (λ m. place_at x l m)
  where
    go : (b : Bool) → eqb x y ≡ b → (b || member x l) ≡ true → (member x l ≡ true → get_or l (place x l) 0 ≡ x) → get_or (y ∷ l) (cond b 0 (suc (place x l))) 0 ≡ x
    go true e m f = sym (eqb-true x y e)
    go false e m f = f m

pub member_at : (l : List ℕ) (k : ℕ) → k < length l → member (get_or l k 0) l ≡ true
unfolding member
member_at [] k h = absurd (omega arith)
member_at (y ∷ l) zero h = simp (eq-eqb y y refl)
member_at (y ∷ l) (suc k) h = ap (λ (b : Bool). eqb (get_or l k 0) y || b) (member_at l k (omega arith)) ∙ or-true (eqb (get_or l k 0) y)
