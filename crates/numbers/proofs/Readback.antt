-- What was written is read back. Assumes nothing.
use Prim.Native.Nat.{ℕ, ◌+◌, ◌/◌, ◌%◌, ◌<◌}
use mathlib.Core.Path.{◌≡◌, sym, ap, ◌∙◌, subst}
use mathlib.Core.List.{List, [], ◌∷◌, ◌++◌}
use native.Mathlib.Nat.{add_assoc, zero-add}
use native.Mathlib.Omega.{arith}
use lib.Dec.{lit<}
use lib.ListN.{length, get_or, length-append, get_or-append}
use lib.Seq.{get_or-append-add}
use Rattle.numbers.specs.Bytes.{u8_at, u16_at, u32_at, u64_at, u16, u32, u64}
use Rattle.numbers.proofs.Laws.{len16, len32}

-- the bytes xs stand in s from place i on
pub record Holds (s : List ℕ) (i : ℕ) (xs : List ℕ) : Type 0 where
  pub at : (q : ℕ) → q < length xs → get_or s (i + q) 0 ≡ get_or xs q 0

pub holds_all : (s : List ℕ) → Holds s 0 s
holds_all s = record { at = λ q h. ap (λ (k : ℕ). get_or s k 0) (zero-add q) }

pub holds_moved : (s : List ℕ) (i j : ℕ) (xs : List ℕ) → i ≡ j → Holds s i xs → Holds s j xs
holds_moved s i j xs e h = subst (λ (k : ℕ). Holds s k xs) e h

module _ (s : List ℕ) (i : ℕ) (xs ys : List ℕ) (h : Holds s i (xs ++ ys)) where
  pub holds_front : Holds s i xs
  holds_front = record {
    at = λ q l. h.at q (omega (arith, length-append xs ys)) ∙ get_or-append xs ys 0 q l;
  }

  pub holds_back : (w : ℕ) → length xs ≡ w → Holds s (i + w) ys
  holds_back w e = record {
    at = λ q l.
        ap (λ (k : ℕ). get_or s k 0) (add_assoc i w q ∙ ap (λ (k : ℕ). i + (k + q)) (sym e))
        ∙ h.at (length xs + q) (omega (arith, length-append xs ys)) ∙ get_or-append-add xs ys q 0;
  }

-- ---- numbers
module _ (s : List ℕ) (i n : ℕ) where
  pub byte_back : Holds s i (n ∷ []) → u8_at s i ≡ n
  byte_back h = ap (λ (k : ℕ). get_or s k 0) (omega arith) ∙ h.at 0 (lit< tt)

  pub u16_back : Holds s i (u16 n) → u16_at s i ≡ n % 65536
  unfolding u16 u16_at
  u16_back h =
      let a : get_or s i 0 ≡ n / 256 % 256 = ap (λ (k : ℕ). get_or s k 0) (omega arith) ∙ h.at 0 (lit< tt) in
      let b : get_or s (i + 1) 0 ≡ n % 256 = h.at 1 (lit< tt) in
      omega arith

pub u32_back : (s : List ℕ) (i n : ℕ) → Holds s i (u32 n) → u32_at s i ≡ n % 4294967296
unfolding u32 u32_at
u32_back s i n h =
    let a : u16_at s i ≡ n / 65536 % 65536 = u16_back s i (n / 65536) (holds_front s i (u16 (n / 65536)) (u16 n) h) in
    let b : u16_at s (i + 2) ≡ n % 65536 = u16_back s (i + 2) n (holds_back s i (u16 (n / 65536)) (u16 n) h 2 (len16 (n / 65536))) in
    omega arith

pub u64_back : (s : List ℕ) (i n : ℕ) → Holds s i (u64 n) → u64_at s i ≡ n % 18446744073709551616
unfolding u64 u64_at
u64_back s i n h =
    let a : u32_at s i ≡ n / 4294967296 % 4294967296 = u32_back s i (n / 4294967296) (holds_front s i (u32 (n / 4294967296)) (u32 n) h) in
    let b : u32_at s (i + 4) ≡ n % 4294967296 = u32_back s (i + 4) n (holds_back s i (u32 (n / 4294967296)) (u32 n) h 4 (len32 (n / 4294967296))) in
    omega arith
