-- Laws of `same`. Assumes nothing.
use Prim.Native.Nat.{ℕ, zero, suc, ◌<◌}
use mathlib.Core.Bool.{true, false, and-false}
use mathlib.Core.Path.{◌≡◌, refl, ap}
use mathlib.Core.List.{List, [], ◌∷◌}
use native.Mathlib.Omega.{arith}
use lib.Dec.{eqb}
use lib.ListN.{length, get_or}
use borrow.Author.Tests.{eq-eqb, ne_eqb}
use Rattle.lists.specs.Same.{same_list}

pub same_length : (xs ys : List ℕ) → (length xs ≡ length ys → ⊥) → same_list xs ys ≡ false
unfolding same_list
same_length [] [] h = absurd (h refl)
same_length [] (y ∷ ys) h = refl
same_length (x ∷ xs) [] h = refl
same_length (x ∷ xs) (y ∷ ys) h = rw (same_length xs ys (λ e. h (ap suc e))) (and-false (eqb x y))

-- the first i bytes agree
pub same_all : (xs ys : List ℕ) → length xs ≡ length ys → ((k : ℕ) → k < length ys → get_or xs k 0 ≡ get_or ys k 0) → same_list xs ys ≡ true
unfolding same_list
same_all [] [] e h = refl
same_all [] (y ∷ ys) e h = absurd (omega arith)
same_all (x ∷ xs) [] e h = absurd (omega arith)
same_all (x ∷ xs) (y ∷ ys) e h =
    rw (eq-eqb x y (h 0 (omega arith))) (same_all xs ys (omega arith) (λ k l. h (suc k) (omega arith)))

pub same_one : (xs ys : List ℕ) (k : ℕ) → k < length ys → (get_or xs k 0 ≡ get_or ys k 0 → ⊥) → length xs ≡ length ys → same_list xs ys ≡ false
unfolding same_list
same_one xs [] k l h e = absurd (omega arith)
same_one [] (y ∷ ys) k l h e = refl
same_one (x ∷ xs) (y ∷ ys) zero l h e = rw (ne_eqb x y h)
same_one (x ∷ xs) (y ∷ ys) (suc k) l h e = rw (same_one xs ys k (omega arith) h (omega arith)) (and-false (eqb x y))
