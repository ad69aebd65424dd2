-- What the proofs of this crate share. Assumes nothing.
use mathlib.Core.Path.{◌≡◌, refl, sym, ap, ◌∙◌}
use mathlib.Core.List.{List, ◌++◌, append_assoc, append-nil}
use mathlib.Core.Bool.{Bool, true, false, cond}
use Prim.Native.Nat.{ℕ, zero, suc, ◌+◌, ◌-◌, ◌*◌, ◌/◌, ◌^◌, ◌≤◌, ◌<◌}
use native.Mathlib.Nat.{pow-suc, pow-le-pow_right}
use native.Mathlib.Omega.{arith}
use lib.Dec.{ltb}
use lib.ListN.{length, get_or, length-append}
use lib.Seq.{length-take-le}
use borrow.Author.Tests.{ltb-true, ltb-false}
use Rattle.job.specs.Refusals.{number_of, carried, refusal_numbers}
use Rattle.job.specs.declared.Refusal.{Refusal}
use Rattle.job.specs.declared.Refusal.TheVariants.{BadLength, BadVersion, BadCounts, BadSize, BadVisibility, BadKind, BadAtom, BadCoordinate, NoScratch, TooManyVertices, NoRoom, ShortLine, BadNumber, AbsentResidue, PastLimits, NoJobRoom, Inconsistent, NoStlRoom, NotStl, BadShares}
use Rattle.io.specs.Counts.{IsPrefixLen}
use Rattle.io.specs.Digits.{last_digits, IsDigitCount}
use Rattle.lists.proofs.Puts.{next}
use Rattle.ribbon_text.specs.Text.{width, decimal, field, blank_name, listed, Wrote}

-- a power of ten is ten times the one before it, and no power is 0
tens : (k : ℕ) → (10 ^ suc k ≡ 10 ^ k * 10) × (1 ≤ 10 ^ k)
tens k = (pow-suc 10 k, pow-le-pow_right {n = 10} (omega arith) {i = 0} {j = k} (omega arith))

less : (k : ℕ) → 10 ^ (suc k - 1) ≡ 10 ^ k
less k = ap (λ (j : ℕ). 10 ^ j) (omega arith)

one_digit : (n k : ℕ) → IsDigitCount 10 1 n k → n < 10 → 1 ≡ k
one_digit n zero w h = absurd (omega (arith, w.0))
one_digit n (suc zero) w h = refl
one_digit n (suc (suc k)) w h = absurd (omega (arith, w.2 (omega arith), less (suc k), tens k))

one_less : (n k : ℕ) → IsDigitCount 10 1 n (suc (suc k)) → IsDigitCount 10 1 (n / 10) (suc k)
one_less n k w = (omega arith, omega (arith, w.1, tens (suc k)), more k w)
  where
    more : (k : ℕ) → IsDigitCount 10 1 n (suc (suc k)) → 1 < suc k → 10 ^ (suc k - 1) ≤ n / 10
    more k w h = omega (arith, w.2 (omega arith), less (suc k), less k, tens k)

step : (f n k : ℕ) → IsDigitCount 10 1 n k → ((j : ℕ) → IsDigitCount 10 1 (n / 10) j → width f (n / 10) ≡ j) → (t : Bool) → ltb n 10 ≡ t
    → cond t 1 (suc (width f (n / 10))) ≡ k
step f n k w ih true e = one_digit n k w (omega (arith, ltb-true))
step f n zero w ih false e = absurd (omega (arith, w.0))
step f n (suc zero) w ih false e = absurd (omega (arith, ltb-false, w.1, pow-suc 10 0))
step f n (suc (suc k)) w ih false e = ap suc (ih (suc k) (one_less n k w))

-- the fewest digits that hold n are as many as `width` counts
pub width_fewest : (f n k : ℕ) → IsDigitCount 10 1 n k → n < 10 ^ suc f → width f n ≡ k
unfolding width
width_fewest zero n k w h = one_digit n k w (omega (arith, tens 0))
width_fewest (suc f) n k w h = step f n k w (λ j v. width_fewest f (n / 10) j v (omega (arith, tens (suc f)))) (ltb n 10) refl

-- what `io::decimal` writes is the number's text
pub decimal_digits : (n k : ℕ) → n < 2 ^ 64 → IsDigitCount 10 1 n k → last_digits 10 k n ≡ decimal n
unfolding decimal
decimal_digits n k h w = ap (λ (j : ℕ). last_digits 10 j n) (sym (width_fewest 19 n k w (omega arith)))

-- one text behind another
pub then : (b : List ℕ) (at : ℕ) (xs ys : List ℕ) {b₁ b₂ : List ℕ} {m end : ℕ}
    → Wrote b at xs b₁ m → Wrote b₁ m ys b₂ end → Wrote b at (xs ++ ys) b₂ end
then b at xs ys {b₁} {b₂} {m} {end} p q =
    (next b b₁ at m xs ys q.0 p.0 p.1, q.1 ∙ ap (λ (n : ℕ). n + length ys) p.1 ∙ simp length-append (omega arith))

-- a number of 64 bits has at most 20 digits
length_digits : (b k n : ℕ) → length (last_digits b k n) ≡ k
length_digits b zero n = refl
length_digits b (suc k) n = simp (length-append, length_digits b k (n / b)) (omega arith)

width_short : (f n : ℕ) → width f n ≤ suc f
unfolding width
width_short zero n = omega arith
width_short (suc f) n = either (ltb n 10) (width_short f (n / 10))
  where
    either : (t : Bool) {w : ℕ} → w ≤ suc f → cond t 1 (suc w) ≤ suc (suc f)
    either true h = omega arith
    either false h = omega arith

pub decimal_short : (n : ℕ) → length (decimal n) ≤ 20
unfolding decimal
decimal_short n = rw length_digits (width_short 19 n)

-- what a refusal carries, by its number
pub one_value : (r : Refusal) → (number_of r ≡ 11 → ⊥) → field blank_name (get_or (refusal_numbers r) 1 0) ≡ listed (carried r)
unfolding listed
one_value BadLength h = sym (append-nil _)
one_value (BadVersion v) h = sym (append-nil _)
one_value BadCounts h = sym (append-nil _)
one_value BadSize h = sym (append-nil _)
one_value (BadVisibility i) h = sym (append-nil _)
one_value (BadKind i) h = sym (append-nil _)
one_value (BadAtom i) h = sym (append-nil _)
one_value (BadCoordinate i) h = sym (append-nil _)
one_value NoScratch h = sym (append-nil _)
one_value TooManyVertices h = sym (append-nil _)
one_value (NoRoom k v t) h = absurd (h refl)
one_value (ShortLine n) h = sym (append-nil _)
one_value (BadNumber n) h = sym (append-nil _)
one_value (AbsentResidue n) h = sym (append-nil _)
one_value PastLimits h = sym (append-nil _)
one_value (NoJobRoom n) h = sym (append-nil _)
one_value Inconsistent h = sym (append-nil _)
one_value (NoStlRoom n) h = sym (append-nil _)
one_value NotStl h = sym (append-nil _)
one_value BadShares h = sym (append-nil _)

pub three_values : (r : Refusal) → number_of r ≡ 11
    → field blank_name (get_or (refusal_numbers r) 1 0) ++ field blank_name (get_or (refusal_numbers r) 2 0) ++ field blank_name (get_or (refusal_numbers r) 3 0)
    ≡ listed (carried r)
unfolding listed
three_values (NoRoom k v t) h = simp (append_assoc, append-nil)
three_values BadLength h = absurd (omega (arith, h))
three_values (BadVersion v) h = absurd (omega (arith, h))
three_values BadCounts h = absurd (omega (arith, h))
three_values BadSize h = absurd (omega (arith, h))
three_values (BadVisibility i) h = absurd (omega (arith, h))
three_values (BadKind i) h = absurd (omega (arith, h))
three_values (BadAtom i) h = absurd (omega (arith, h))
three_values (BadCoordinate i) h = absurd (omega (arith, h))
three_values NoScratch h = absurd (omega (arith, h))
three_values TooManyVertices h = absurd (omega (arith, h))
three_values (ShortLine n) h = absurd (omega (arith, h))
three_values (BadNumber n) h = absurd (omega (arith, h))
three_values (AbsentResidue n) h = absurd (omega (arith, h))
three_values PastLimits h = absurd (omega (arith, h))
three_values (NoJobRoom n) h = absurd (omega (arith, h))
three_values Inconsistent h = absurd (omega (arith, h))
three_values (NoStlRoom n) h = absurd (omega (arith, h))
three_values NotStl h = absurd (omega (arith, h))
three_values BadShares h = absurd (omega (arith, h))

-- a count within a list
pub counts : (n : ℕ) (l : List ℕ) → n ≤ length l → IsPrefixLen n l
counts n l h = (h, sym (length-take-le n l h))
