-- A list with a property of each number and a link between neighbours: cutting it, and adding a neighbour, keep both. Assumes nothing.
use Prim.Native.Nat.{ℕ, zero, suc, ◌+◌, ◌-◌, ◌≤◌}
use mathlib.Core.Bool.{Bool, true, false, cond}
use mathlib.Core.List.{List, [], ◌∷◌, ◌++◌, append-nil, append_assoc}
use mathlib.Core.Path.{◌≡◌, refl, sym, subst}
use native.Mathlib.Nat.{le_of_suc-le-suc}
use native.Mathlib.Omega.{arith}
use lib.ListN.{length, get_or}
use Rattle.tubes.specs.Lists.{Each}
use Rattle.tubes.specs.Pieces.{glue, pieces}
use Rattle.tubes.specs.Tubes.{leads, extended}
use Rattle.tube_theorems.specs.Listing.{Neighbours, EachList}

-- S between x and the first of a list
abbrev pub Next : (ℕ → ℕ → Type 0) → ℕ → List ℕ → Type 0
Next S x [] = Unit
Next S x (y ∷ ys) = S x y

-- P of every number, S between neighbours
abbrev pub Linked : (ℕ → Type 0) → (ℕ → ℕ → Type 0) → List ℕ → Type 0
Linked P S [] = Unit
Linked P S (x ∷ xs) = P x × (Next S x xs × Linked P S xs)

-- ---- by index

pub linked_each : (P : ℕ → Type 0) (S : ℕ → ℕ → Type 0) (l : List ℕ) → Linked P S l → Each P l
linked_each P S [] a i h = absurd (omega arith)
linked_each P S (x ∷ xs) a zero h = a.0
linked_each P S (x ∷ xs) a (suc i) h = linked_each P S xs a.1.1 i (le_of_suc-le-suc h)

pub linked_neighbours : (P : ℕ → Type 0) (S : ℕ → ℕ → Type 0) (l : List ℕ) → Linked P S l → Neighbours S l
linked_neighbours P S [] a i h = absurd (omega arith)
linked_neighbours P S (x ∷ []) a i h = absurd (omega arith)
linked_neighbours P S (x ∷ y ∷ ys) a zero h = a.1.0
linked_neighbours P S (x ∷ y ∷ ys) a (suc i) h = linked_neighbours P S (y ∷ ys) a.1.1 i (le_of_suc-le-suc h)

pub linked_from : (P : ℕ → Type 0) (S : ℕ → ℕ → Type 0) (l : List ℕ) → Each P l → Neighbours S l → Linked P S l
linked_from P S [] a b = tt
linked_from P S (x ∷ []) a b = (a 0 (omega arith), (tt, tt))
linked_from P S (x ∷ y ∷ ys) a b =
    (a 0 (omega arith), (b 0 (omega arith), linked_from P S (y ∷ ys) (λ i h. a (suc i) (omega arith)) (λ i h. b (suc i) (omega arith))))

pub linked_weak : (P : ℕ → Type 0) (S U : ℕ → ℕ → Type 0) → ((x y : ℕ) → S x y → U x y) → (l : List ℕ) → Linked P S l → Linked P U l
linked_weak P S U f l a = linked_from P U l (linked_each P S l a) (λ i h. f _ _ (linked_neighbours P S l a i h))

pub linked_map : (P Q : ℕ → Type 0) (S : ℕ → ℕ → Type 0) → ((x : ℕ) → P x → Q x) → (l : List ℕ) → Linked P S l → Linked Q S l
linked_map P Q S f [] a = tt
linked_map P Q S f (x ∷ xs) a = (f x a.0, (a.1.0, linked_map P Q S f xs a.1.1))

-- ---- cutting

-- S between x and the first number of the first piece
abbrev NextPiece : (ℕ → ℕ → Type 0) → ℕ → List (List ℕ) → Type 0
NextPiece S x [] = Unit
NextPiece S x (p ∷ ps) = Next S x p

pieces_next : (S : ℕ → ℕ → Type 0) (cut : ℕ → ℕ → Bool) (x : ℕ) (l : List ℕ) → Next S x l → NextPiece S x (pieces cut l)
unfolding pieces
pieces_next S cut x [] s = tt
pieces_next S cut x (y ∷ ys) s = go (pieces cut ys)
  where
    put : (p : List ℕ) (ps : List (List ℕ)) (b : Bool) → NextPiece S x (cond b ((y ∷ []) ∷ (p ∷ ps)) ((y ∷ p) ∷ ps))
    put p ps true = s
    put p ps false = s

    go : (ps : List (List ℕ)) → NextPiece S x (glue cut y ps)
    go [] = s
    go (p ∷ ps) = put p ps (cut y (get_or p 0 0))

-- each piece is linked as the list is, with no cut between neighbours
pub pieces_linked : (P : ℕ → Type 0) (S : ℕ → ℕ → Type 0) (cut : ℕ → ℕ → Bool) (l : List ℕ) → Linked P S l
    → EachList (λ p. (1 ≤ length p) × Linked P (λ x y. S x y × (cut x y ≡ false)) p) (pieces cut l)
unfolding pieces
pieces_linked P S cut [] a = tt
pieces_linked P S cut (x ∷ xs) a = go (pieces cut xs) (pieces_next S cut x xs a.1.0) (pieces_linked P S cut xs a.1.1)
  where
    Q : List ℕ → Type 0
    Q p = (1 ≤ length p) × Linked P (λ u v. S u v × (cut u v ≡ false)) p

    next : (p : List ℕ) → Next S x p → cut x (get_or p 0 0) ≡ false → Next (λ u v. S u v × (cut u v ≡ false)) x p
    next [] s e = tt
    next (y ∷ ys) s e = (s, e)

    put : (p : List ℕ) (ps : List (List ℕ)) → Next S x p → Q p × EachList Q ps → (b : Bool) → cut x (get_or p 0 0) ≡ b
        → EachList Q (cond b ((x ∷ []) ∷ (p ∷ ps)) ((x ∷ p) ∷ ps))
    put p ps s r true e = ((omega arith, (a.0, (tt, tt))), r)
    put p ps s r false e = ((omega arith, (a.0, (next p s e, r.0.1))), r.1)

    go : (ps : List (List ℕ)) → NextPiece S x ps → EachList Q ps → EachList Q (glue cut x ps)
    go [] s r = ((omega arith, (a.0, (tt, tt))), tt)
    go (p ∷ ps) s r = put p ps s r (cut x (get_or p 0 0)) refl

-- ---- a neighbour more

abbrev pub last_of : ℕ → List ℕ → ℕ
last_of x [] = x
last_of x (y ∷ ys) = last_of y ys

pub last_is : (x : ℕ) (xs : List ℕ) → get_or (x ∷ xs) (length (x ∷ xs) - 1) 0 ≡ last_of x xs
last_is x xs = let z : length (x ∷ xs) - 1 ≡ length xs = omega arith in rw z (go x xs)
  where
    go : (x : ℕ) (xs : List ℕ) → get_or (x ∷ xs) (length xs) 0 ≡ last_of x xs
    go x [] = refl
    go x (y ∷ ys) = go y ys

linked_last : (P : ℕ → Type 0) (S : ℕ → ℕ → Type 0) (x : ℕ) (xs : List ℕ) → Linked P S (x ∷ xs) → P (last_of x xs)
linked_last P S x [] a = a.0
linked_last P S x (y ∷ ys) a = linked_last P S y ys a.1.1

linked_more : (P : ℕ → Type 0) (S : ℕ → ℕ → Type 0) (x : ℕ) (xs : List ℕ) (v : ℕ) → Linked P S (x ∷ xs) → P v → S (last_of x xs) v → Linked P S ((x ∷ xs) ++ (v ∷ []))
linked_more P S x [] v a p s = (a.0, (s, (p, (tt, tt))))
linked_more P S x (y ∷ ys) v a p s = (a.0, (a.1.0, linked_more P S y ys v a.1.1 p s))

-- a run with the neighbours that join it: Q of the run, P of the run and of its neighbours
module _ (Q P : ℕ → Type 0) (S : ℕ → ℕ → Type 0) (join : ℕ → ℕ → Bool) (weak : (x : ℕ) → Q x → P x)
    (lead : (r : ℕ) → join r (suc r) ≡ true → Q (suc r) → P r × S r (suc r)) (tail : (z : ℕ) → join (z + 1) z ≡ true → Q z → P (z + 1) × S z (z + 1)) where
  led : (x : ℕ) (l : List ℕ) → Q x → Linked P S (x ∷ l) → Linked P S (cond (leads join x) ((x - 1) ∷ []) [] ++ (x ∷ l))
  led zero l q a = a
  led (suc r) l q a = go (join r (suc r)) refl
    where
      go : (b : Bool) → join r (suc r) ≡ b → Linked P S (cond b ((suc r - 1) ∷ []) [] ++ (suc r ∷ l))
      go true e = let z : suc r - 1 ≡ r = omega arith in rw z ((lead r e q).0, ((lead r e q).1, a))
      go false e = a

  pub extended_linked : (run : List ℕ) → 1 ≤ length run → Linked Q S run → Linked P S (extended join run)
  unfolding extended
  extended_linked [] h a = absurd (omega arith)
  extended_linked (x ∷ xs) h a = rw (last_is x xs, append_assoc) (led x _ a.0 (body (join (last_of x xs + 1) (last_of x xs)) refl))
    where
      b : Linked P S (x ∷ xs)
      b = linked_map Q P S weak (x ∷ xs) a

      body : (c : Bool) → join (last_of x xs + 1) (last_of x xs) ≡ c → Linked P S ((x ∷ xs) ++ cond c ((last_of x xs + 1) ∷ []) [])
      body true e = let t = tail (last_of x xs) e (linked_last Q S x xs a) in linked_more P S x xs (last_of x xs + 1) b t.0 t.1
      body false e = subst (Linked P S) (sym (append-nil (x ∷ xs))) b
