-- What a lent buffer holds after a call: a list, with another written into it. Definitions only; the laws are in proofs/Puts.
-- `put_eq` there says the same with `take` and `drop`.
use Rattle.std.specs.Prelude.{List, [], ◌∷◌, ◌++◌, ℕ, zero, suc, set}

module _ {ℓ} {A : Type ℓ} where
  -- l, with xs stored one after the other from place i on; every other place stays as it was (01: 'Places past what a call writes stay as they were')
  unfoldable pub put : List A → ℕ → List A → List A
  put l i [] = l
  put l i (x ∷ xs) = put (set l i x) (suc i) xs

  -- f 0, f 1, .., f (n - 1), one after the other
  unfoldable pub upto : (ℕ → List A) → ℕ → List A
  upto f zero = []
  upto f (suc n) = upto f n ++ f n
