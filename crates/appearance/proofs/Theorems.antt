-- What 'numbered by first appearance' comes to: theorems over `order` and `place`, by which a reader can judge those two definitions. Assumes nothing.
use Prim.Native.Nat.{ℕ, ◌<◌}
use mathlib.Core.Bool.{Bool, true, false, cond}
use mathlib.Core.Path.{◌≡◌, sym, ap, ◌∙◌}
use mathlib.Core.List.{List, [], ◌∷◌, ◌++◌, append_assoc}
use lib.ListN.{length, get_or}
use Rattle.appearance.specs.Order.{member, place, distinct, order}
use Rattle.appearance.proofs.Laws.{member_distinct, distinct_append, distinct_front, extra, place_append, place_new, place_lt, place_at}

among : (x : ℕ) (l : List ℕ) → member x (order l) ≡ member x l
unfolding member
among x l = member_distinct x [] l

-- a key that came before keeps its number, whatever follows
pub keeps_its_number : (x : ℕ) (a b : List ℕ) → member x a ≡ true → place x (order (a ++ b)) ≡ place x (order a)
keeps_its_number x a b m =
    ap (place x) (distinct_append [] a b ∙ distinct_front (order a) b) ∙ place_append x (order a) (extra (order a) b) (among x a ∙ m)

-- a new key gets the next number, counted from 0: as many keys came before it
pub next_number : (x : ℕ) (a b : List ℕ) → member x a ≡ false → place x (order (a ++ (x ∷ b))) ≡ length (order a)
unfolding distinct
next_number x a b m =
    ap (place x) (distinct_append [] a (x ∷ b)
    ∙ ap (λ (t : Bool). distinct (cond t (order a) (order a ++ (x ∷ []))) b) (among x a ∙ m)
    ∙ distinct_front (order a ++ (x ∷ [])) b
    ∙ append_assoc (order a) (x ∷ []) (extra (order a ++ (x ∷ [])) b))
    ∙ place_new x (order a) (extra (order a ++ (x ∷ [])) b) (among x a ∙ m)

-- two keys of a list that have one number are one key
pub one_key : (x y : ℕ) (l : List ℕ) → member x l ≡ true → member y l ≡ true → place x (order l) ≡ place y (order l) → x ≡ y
one_key x y l m n e = sym (place_at x (order l) (among x l ∙ m)) ∙ ap (λ (k : ℕ). get_or (order l) k 0) e ∙ place_at y (order l) (among y l ∙ n)

-- a key of a list has a number below their count
pub below_count : (x : ℕ) (l : List ℕ) → member x l ≡ true → place x (order l) < length (order l)
below_count x l m = place_lt x (order l) (among x l ∙ m)
