-- Where the bytes of a shared job and of the records stand in the job with those records. Assumes nothing.
use Prim.Native.Nat.{ℕ, ◌+◌, ◌-◌, ◌%◌, ◌≤◌}
use mathlib.Core.Path.{◌≡◌, subst}
use mathlib.Core.List.{List, ◌++◌, append_assoc}
use native.Mathlib.Omega.{arith}
use lib.ListN.{length, take, drop, length-append, length-drop}
use lib.Seq.{length-take-le, take_at, drop_at}
use Rattle.numbers.specs.Bytes.{u16_at, u32_at, u16, u32}
use Rattle.numbers.proofs.Laws.{len16, len32}
use Rattle.numbers.proofs.Readback.{Holds, holds_all, holds_front, holds_back, u16_back, u32_back}
use Rattle.protein.specs.Layout.{head_of}
use Rattle.protein.specs.Job.{segments_of}
use Rattle.joined.specs.Joined.{joined_head, with_records}
use Rattle.joined.proofs.Agree.{Agree, agree_past, agree_part}

module _ (s q : List ℕ) (long : 13 + (head_of s).chains ≤ length s) where
  -- what the length field says, the part from the version to R, S, and the part from A to the last chain
  abbrev n : ℕ
  n = length s + length q - 4

  abbrev k : ℕ
  k = (segments_of q).count

  abbrev v : List ℕ
  v = take 5 (drop 4 s)

  abbrev m : List ℕ
  m = take (2 + (head_of s).chains) (drop 11 s)

  v_length : length v ≡ 5
  v_length = let d = length-drop 4 s in length-take-le 5 (drop 4 s) (omega arith)

  m_length : length m ≡ 2 + (head_of s).chains
  m_length = let d = length-drop 11 s in length-take-le (2 + (head_of s).chains) (drop 11 s) (omega arith)

  head_length : length (joined_head s q) ≡ 13 + (head_of s).chains
  unfolding joined_head
  head_length = simp (length-append, len32, len16, v_length, m_length) (omega arith)

  -- no byte is lost
  pub joined_length : length (with_records s q) ≡ length s + length q
  unfolding with_records
  joined_length = simp (length-append, length-drop, head_length) (omega arith)

  holds_head : Holds (with_records s q) 0 (joined_head s q)
  unfolding with_records
  holds_head = holds_front (with_records s q) 0 (joined_head s q) _ (holds_all (with_records s q))

  holds_fields : Holds (with_records s q) 4 (v ++ (u16 k ++ m))
  unfolding joined_head
  holds_fields = holds_back (with_records s q) 0 (u32 n) (v ++ (u16 k ++ m)) holds_head 4 (len32 n)

  holds_count : Holds (with_records s q) 9 (u16 k ++ m)
  holds_count = holds_back (with_records s q) 4 v (u16 k ++ m) holds_fields 5 v_length

  -- the length field and S
  pub length_said : u32_at (with_records s q) 0 ≡ (length s + length q - 4) % 4294967296
  unfolding joined_head
  length_said = u32_back (with_records s q) 0 n (holds_front (with_records s q) 0 (u32 n) (v ++ (u16 k ++ m)) holds_head)

  pub count_said : u16_at (with_records s q) 9 ≡ (segments_of q).count % 65536
  count_said = u16_back (with_records s q) 9 k (holds_front (with_records s q) 9 (u16 k) m holds_count)

  -- version, C and R; A and the chains: in their places
  pub fields_same : Agree s (with_records s q) 4 9 0
  fields_same = agree_part s (with_records s q) 4 5 (omega arith) (holds_front (with_records s q) 4 v (u16 k ++ m) holds_fields)

  pub chains_same : Agree s (with_records s q) 11 (11 + (2 + (head_of s).chains)) 0
  chains_same = agree_part s (with_records s q) 11 (2 + (head_of s).chains) (omega arith) (holds_back (with_records s q) 9 (u16 k) m holds_count 2 (len16 k))

  -- the atoms, and what is past the last: behind the records
  pub atoms_same : (end : ℕ) → Agree s (with_records s q) (13 + (head_of s).chains) end (length q)
  unfolding with_records
  atoms_same end =
      let i = 13 + (head_of s).chains in
      subst (λ (l : List ℕ). Agree s l i end (length q)) (append_assoc (joined_head s q) q (drop i s))
      (agree_past s (joined_head s q ++ q) i (length q) (omega (arith, length-append (joined_head s q) q, head_length)) end)

  -- the records themselves
  pub records_there : (w : ℕ) → length q ≡ w → take w (drop (13 + (head_of s).chains) (with_records s q)) ≡ q
  unfolding with_records
  records_there w e =
      rw (drop_at (joined_head s q) (q ++ drop (13 + (head_of s).chains) s) (13 + (head_of s).chains) head_length) (take_at q (drop (13 + (head_of s).chains) s) w e)
