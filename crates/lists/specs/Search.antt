-- 'The first ..' and 'the last ..' of 01: the first and the last number below n that a test takes, counted from 1, so that 0 says that there is none.
-- What they mean is said by `IsFirst`, `IsLast` and `None`: they are one more than i exactly where i is the first, or the last, and 0 exactly where
-- there is none (`first_is`, `is_first`, `first_none`, `first_false`, `last_is`, `is_last`, `last_none`, `last_false` of proofs/Searches).
use Rattle.std.specs.Prelude.{ℕ, zero, suc, ◌<◌, Bool, true, false, cond, ◌&&◌, ◌≡◌}

-- i is the first number below n that the test takes: it is taken, and none before it is
pub record IsFirst (t : ℕ → Bool) (n i : ℕ) : Type 0 where
  pub below : i < n
  pub taken : t i ≡ true
  pub before : (k : ℕ) → k < i → t k ≡ false

-- i is the last: it is taken, and none after it is
pub record IsLast (t : ℕ → Bool) (n i : ℕ) : Type 0 where
  pub below : i < n
  pub taken : t i ≡ true
  pub after : (k : ℕ) → i < k → k < n → t k ≡ false

-- the test takes no number below n
abbrev pub None : (ℕ → Bool) → ℕ → Type 0
None t n = (k : ℕ) → k < n → t k ≡ false

-- `a` where it is not 0, and otherwise `b`
abbrev pub or_else : ℕ → ℕ → ℕ
or_else zero b = b
or_else (suc a) b = suc a

-- one more than the last number below n that the test takes; 0: there is none
unfoldable pub last : (ℕ → Bool) → ℕ → ℕ
last t zero = zero
last t (suc n) = cond (t n) (suc n) (last t n)

-- one more than the first number below n that the test takes; 0: there is none
unfoldable pub first : (ℕ → Bool) → ℕ → ℕ
first t zero = zero
first t (suc n) = or_else (first t n) (cond (t n) (suc n) zero)

-- the test takes every number below n (`every_takes` and `takes_every` of proofs/Searches: it is true exactly where each is taken)
unfoldable pub every : (ℕ → Bool) → ℕ → Bool
every t zero = true
every t (suc n) = every t n && t n
