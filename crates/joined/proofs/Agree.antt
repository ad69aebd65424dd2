-- Reading numbers of bytes in a list that has another's bytes, moved or in their own place: in a ++ b before the end of a and past it, and in parts. Assumes nothing.
use Prim.Native.Nat.{ℕ, ◌+◌, ◌-◌, ◌<◌, ◌≤◌}
use mathlib.Core.Path.{◌≡◌, refl, sym, ap, ◌∙◌}
use mathlib.Core.List.{List, ◌++◌}
use native.Mathlib.Omega.{arith}
use lib.ListN.{length, take, drop, get_or, length-drop, get_or-append}
use lib.Seq.{get_or-append-add, get_or-drop, length-take-le}
use Rattle.lists.proofs.Any.{part_place}
use Rattle.numbers.specs.Bytes.{u8_at, u16_at, u32_at, u64_at}
use Rattle.numbers.proofs.Readback.{Holds}

-- what stands in s from a place on and before an end stands in t so many places further on
pub record Agree (s t : List ℕ) (first end by : ℕ) : Type 0 where
  pub at : (r p : ℕ) → p ≡ r + by → first ≤ r → r < end → u8_at t p ≡ u8_at s r

module _ (s t : List ℕ) (first end by : ℕ) (A : Agree s t first end by) (r p : ℕ) (e : p ≡ r + by) (l : first ≤ r) where
  pub u16_agree : r + 2 ≤ end → u16_at t p ≡ u16_at s r
  unfolding u16_at
  u16_agree h = rw (A.at r p e l (omega arith), A.at (r + 1) (p + 1) (omega arith) (omega arith) (omega arith))

module _ (s t : List ℕ) (first end by : ℕ) (A : Agree s t first end by) (r p : ℕ) (e : p ≡ r + by) (l : first ≤ r) where
  pub u32_agree : r + 4 ≤ end → u32_at t p ≡ u32_at s r
  unfolding u32_at
  u32_agree h =
      rw (u16_agree s t first end by A r p e l (omega arith), u16_agree s t first end by A (r + 2) (p + 2) (omega arith) (omega arith) (omega arith))

module _ (s t : List ℕ) (first end by : ℕ) (A : Agree s t first end by) (r p : ℕ) (e : p ≡ r + by) (l : first ≤ r) where
  pub u64_agree : r + 8 ≤ end → u64_at t p ≡ u64_at s r
  unfolding u64_at
  u64_agree h =
      rw (u32_agree s t first end by A r p e l (omega arith), u32_agree s t first end by A (r + 4) (p + 4) (omega arith) (omega arith) (omega arith))

-- a ++ b before the end of a
pub agree_before : (a b : List ℕ) → Agree a (a ++ b) 0 (length a) 0
agree_before a b = record { at = λ r p e l h. let q : p ≡ r = omega arith in rw q (get_or-append a b 0 r h) }

-- and past it, with the back of a list behind what stood before it or stands there now
pub agree_past : (s a : List ℕ) (i by : ℕ) → length a ≡ i + by → (end : ℕ) → Agree s (a ++ drop i s) i end by
agree_past s a i by n end = record {
  at = λ r p e l h.
      let x : p ≡ length a + (r - i) = omega arith in
      let y : i + (r - i) ≡ r = omega arith in
      ap (λ (k : ℕ). get_or (a ++ drop i s) k 0) x ∙ get_or-append-add a (drop i s) (r - i) 0 ∙ get_or-drop i s (r - i) 0 ∙ ap (λ (k : ℕ). get_or s k 0) y;
}

-- a part of a list, in its own place
pub agree_part : (s t : List ℕ) (i n : ℕ) → i + n ≤ length s → Holds t i (take n (drop i s)) → Agree s t i (i + n) 0
agree_part s t i n m H = record {
  at = λ r p e l h.
      let d = length-drop i s in
      let w = length-take-le n (drop i s) (omega arith) in
      let x : p ≡ i + (r - i) = omega arith in
      let y : i + (r - i) ≡ r = omega arith in
      ap (λ (k : ℕ). get_or t k 0) x ∙ H.at (r - i) (omega arith) ∙ sym (part_place s i n (r - i) 0 refl (omega arith))
      ∙ ap (λ (k : ℕ). get_or s k 0) y;
}
