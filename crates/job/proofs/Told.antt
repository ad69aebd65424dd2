-- A refusal is told by its numbers: no two have the same number with the same values (01, 'Refusal numbers'; 02 §1, §4, §5). Assumes nothing.
use Rattle.std.specs.Prelude.{Result, Ok, Err}
use Prim.Native.Nat.{ℕ}
use mathlib.Core.Bool.{false, cond}
use Rattle.lists.proofs.Bools.{clash}
use mathlib.Core.List.{List}
use mathlib.Core.Path.{◌≡◌, refl, sym, ap, ◌∙◌}
use lib.Dec.{eqb}
use lib.ListN.{get_or}
use Rattle.job.specs.Refusals.{number_of, refusal_numbers, size_numbers}
use Rattle.job.specs.declared.Refusal.{Refusal}
use Rattle.job.specs.declared.Refusal.TheVariants.{BadLength, BadVersion, BadCounts, BadSize, BadVisibility, BadKind, BadAtom, BadCoordinate, NoScratch, TooManyVertices, NoRoom, ShortLine, BadNumber, AbsentResidue, PastLimits, NoJobRoom, Inconsistent, NoStlRoom, NotStl, BadShares}

-- the refusal of a number n that carries x, y and z
pub named : ℕ → ℕ → ℕ → ℕ → Refusal
named n x y z =
    cond (eqb n 1) BadLength
    (cond (eqb n 2) (BadVersion x)
    (cond (eqb n 3) BadCounts
    (cond (eqb n 4) BadSize
    (cond (eqb n 5) (BadVisibility x)
    (cond (eqb n 6) (BadKind x)
    (cond (eqb n 7) (BadAtom x)
    (cond (eqb n 8) (BadCoordinate x)
    (cond (eqb n 9) NoScratch
    (cond (eqb n 10) TooManyVertices
    (cond (eqb n 11) (NoRoom x y z)
    (cond (eqb n 12) (ShortLine x)
    (cond (eqb n 13) (BadNumber x)
    (cond (eqb n 14) (AbsentResidue x)
    (cond (eqb n 15) PastLimits
    (cond (eqb n 16) (NoJobRoom x)
    (cond (eqb n 17) Inconsistent
    (cond (eqb n 18) (NoStlRoom x)
    (cond (eqb n 19) NotStl BadShares))))))))))))))))))

-- and of a list of numbers
unfoldable pub of : List ℕ → Refusal
of l = named (get_or l 0 0) (get_or l 1 0) (get_or l 2 0) (get_or l 3 0)

pub back : (r : Refusal) → of (refusal_numbers r) ≡ r
unfolding of named
back BadLength = refl
back (BadVersion v) = refl
back BadCounts = refl
back BadSize = refl
back (BadVisibility i) = refl
back (BadKind i) = refl
back (BadAtom i) = refl
back (BadCoordinate i) = refl
back NoScratch = refl
back TooManyVertices = refl
back (NoRoom k v t) = refl
back (ShortLine n) = refl
back (BadNumber n) = refl
back (AbsentResidue n) = refl
back PastLimits = refl
back (NoJobRoom n) = refl
back Inconsistent = refl
back (NoStlRoom n) = refl
back NotStl = refl
back BadShares = refl

pub told : (r q : Refusal) → refusal_numbers r ≡ refusal_numbers q → r ≡ q
told r q e = sym (back r) ∙ ap of e ∙ back q

-- 0 is no refusal's number
pub not_zero : (r : Refusal) → eqb (number_of r) 0 ≡ false
not_zero BadLength = refl
not_zero (BadVersion v) = refl
not_zero BadCounts = refl
not_zero BadSize = refl
not_zero (BadVisibility i) = refl
not_zero (BadKind i) = refl
not_zero (BadAtom i) = refl
not_zero (BadCoordinate i) = refl
not_zero NoScratch = refl
not_zero TooManyVertices = refl
not_zero (NoRoom k v t) = refl
not_zero (ShortLine n) = refl
not_zero (BadNumber n) = refl
not_zero (AbsentResidue n) = refl
not_zero PastLimits = refl
not_zero (NoJobRoom n) = refl
not_zero Inconsistent = refl
not_zero (NoStlRoom n) = refl
not_zero NotStl = refl
not_zero BadShares = refl

pub zero_not : (r : Refusal) → 0 ≡ number_of r → ⊥
zero_not r e = clash (ap (λ (n : ℕ). eqb n 0) (sym e)) (not_zero r)

-- an answer of one number is told by its numbers
pub size_told : (r q : Result ℕ Refusal) → size_numbers r ≡ size_numbers q → r ≡ q
size_told (Ok n) (Ok m) e = ap (λ (l : List ℕ). Ok (get_or l 1 0)) e
size_told (Ok n) (Err q) e = absurd (zero_not q (ap (λ (l : List ℕ). get_or l 0 0) e))
size_told (Err r) (Ok m) e = absurd (zero_not r (sym (ap (λ (l : List ℕ). get_or l 0 0) e)))
size_told (Err r) (Err q) e = ap Err (told r q e)
