-- Keys numbered by first appearance (02 §1: 'residues and chains are numbered by first appearance in ATOM lines').
use Rattle.std.specs.Prelude.{ℕ, suc, ◌+◌, List, [], ◌∷◌, ◌++◌, Bool, false, ◌||◌, cond, eqb}

-- x is in the list
unfoldable pub member : ℕ → List ℕ → Bool
member x [] = false
member x (y ∷ l) = eqb x y || member x l

-- where x first stands, counted from 0; the length where it does not
unfoldable pub place : ℕ → List ℕ → ℕ
place x [] = 0
place x (y ∷ l) = cond (eqb x y) 0 (suc (place x l))

-- x at the end, unless it is there
abbrev pub add : List ℕ → ℕ → List ℕ
add l x = cond (member x l) l (l ++ (x ∷ []))

-- the keys of a list, each once, after those that were seen
unfoldable pub distinct : List ℕ → List ℕ → List ℕ
distinct seen [] = seen
distinct seen (x ∷ l) = distinct (add seen x) l

-- each key once, in the order of first appearance: the number of key x is `place x (order l)`, and there are `length (order l)` of them
abbrev pub order : List ℕ → List ℕ
order l = distinct [] l

-- the number of x counted from 1; 0: it does not appear
unfoldable pub numbered : List ℕ → ℕ → ℕ
numbered l x = cond (member x l) (place x (order l) + 1) 0
