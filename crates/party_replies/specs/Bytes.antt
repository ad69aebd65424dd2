-- The bytes of a request of one of two parties.
use Rattle.std.specs.Prelude.{Option, Some, None, ℕ, ◌+◌, ◌*◌, ◌-◌, List, [], ◌∷◌, cond, length, replicate, ltb}
use Rattle.lists.specs.Put.{put, upto}
use Rattle.numbers.specs.Bytes.{u32_at}

-- a party's twelve numbers, start and length of each share, four bytes a number from byte i on
abbrev pub numbers_at : List ℕ → ℕ → List ℕ
numbers_at b i = upto (λ j. u32_at b (i + j * 4) ∷ []) 12

-- both parties' numbers, party 0's at the front of the bytes and then party 1's, as party k hands them over: its own, and then the other's
abbrev pub shares_for : List ℕ → ℕ → List ℕ
shares_for b k = put (put (replicate 24 0) 0 (numbers_at b (48 * k))) 12 (numbers_at b (48 - 48 * k))

-- where the job begins: behind the records, whose size stands at byte i. None where the bytes end before the records do
abbrev pub job_at : List ℕ → ℕ → Option ℕ
job_at b i = cond (ltb (length b) (i + 4 + u32_at b i)) None (Some (i + 4 + u32_at b i))
