-- How long words, floats and vectors are, and that what was written is read back. Assumes nothing.
use Prim.Native.Nat.{ℕ, ◌+◌, ◌*◌, ◌/◌, ◌%◌, ◌<◌}
use mathlib.Core.Path.{◌≡◌, refl, ap, ◌∙◌}
use mathlib.Core.List.{List, [], ◌∷◌, ◌++◌}
use native.Mathlib.Nat.{mod-eq_of_lt}
use native.Mathlib.Omega.{arith}
use lib.Dec.{T, lit<}
use lib.ListN.{length, get_or}
use lib.Ieee.{Float, binary32, to_bits, of_bits, fits}
use lib.Ieee.Bits.{of_bits-to_bits, to_bits-lt}
use Rattle.numbers.specs.Bytes.{u8_at}
use Rattle.numbers.proofs.Readback.{Holds, holds_front, holds_back, holds_moved}
use Rattle.vectors.specs.declared.Vec3.{Vec3}
use Rattle.little.specs.Little.{le16, le32, le16_at, le32_at, le_float, le_float_at, le_vec, le_vec_at}

pub long32 : (w : ℕ) → length (le32 w) ≡ 4
unfolding le32 le16
long32 w = refl

pub long_vec : (v : Vec3) → length (le_vec v) ≡ 12
unfolding le_vec le32 le16
long_vec v = refl

le16_back : (s : List ℕ) (i n : ℕ) → Holds s i (le16 n) → le16_at s i ≡ n % 65536
unfolding le16 le16_at
le16_back s i n h =
    let a : get_or s i 0 ≡ n % 256 = ap (λ (k : ℕ). get_or s k 0) (omega arith) ∙ h.at 0 (lit< tt) in
    let b : get_or s (i + 1) 0 ≡ n / 256 % 256 = h.at 1 (lit< tt) in
    omega arith

pub le32_back : (s : List ℕ) (i n : ℕ) → Holds s i (le32 n) → le32_at s i ≡ n % 4294967296
unfolding le32 le32_at le16
le32_back s i n h =
    let a : le16_at s i ≡ n % 65536 = le16_back s i n (holds_front s i (le16 n) (le16 (n / 65536)) h) in
    let b : le16_at s (i + 2) ≡ n / 65536 % 65536 = le16_back s (i + 2) (n / 65536) (holds_back s i (le16 n) (le16 (n / 65536)) h 2 (long16 n)) in
    omega arith
  where
    long16 : (n : ℕ) → length (le16 n) ≡ 2
    long16 n = refl

-- a word that is read from bytes is one
pub le32_below : (s : List ℕ) (i : ℕ) → ((k : ℕ) → get_or s k 0 < 256) → le32_at s i < 4294967296
unfolding le32_at le16_at
le32_below s i b = omega (arith, b i, b (i + 1), b (i + 2), b (i + 2 + 1))

-- ---- floats: each that binary32 holds, as every f32 is, is read back, and so are its bits

abbrev pub IsF32 : Float → Type 0
IsF32 x = T (fits binary32 x)

pub record VecIsF32 (v : Vec3) : Type 0 where
  pub x : IsF32 v.x
  pub y : IsF32 v.y
  pub z : IsF32 v.z

pub bits_back : (s : List ℕ) (i : ℕ) (x : Float) → IsF32 x → Holds s i (le_float x) → le32_at s i ≡ to_bits binary32 x
bits_back s i x f h = le32_back s i (to_bits binary32 x) h ∙ mod-eq_of_lt (to_bits-lt binary32 x f)

pub float_back : (s : List ℕ) (i : ℕ) (x : Float) → IsF32 x → Holds s i (le_float x) → le_float_at s i ≡ x
float_back s i x f h = ap (of_bits binary32) (bits_back s i x f h) ∙ of_bits-to_bits binary32 x f

-- the three parts of a vector's bytes
module _ (s : List ℕ) (i : ℕ) (v : Vec3) (h : Holds s i (le_vec v)) where
  behind : Holds s (i + 4) (le_float v.y ++ le_float v.z)
  unfolding le_vec
  behind = holds_back s i (le_float v.x) (le_float v.y ++ le_float v.z) h 4 (long32 (to_bits binary32 v.x))

  pub holds_x : Holds s i (le_float v.x)
  unfolding le_vec
  holds_x = holds_front s i (le_float v.x) (le_float v.y ++ le_float v.z) h

  pub holds_y : Holds s (i + 4) (le_float v.y)
  holds_y = holds_front s (i + 4) (le_float v.y) (le_float v.z) behind

  pub holds_z : Holds s (i + 8) (le_float v.z)
  holds_z = holds_moved s (i + 4 + 4) (i + 8) (le_float v.z) (omega arith) (holds_back s (i + 4) (le_float v.y) (le_float v.z) behind 4 (long32 (to_bits binary32 v.y)))

  pub vec_back : VecIsF32 v → le_vec_at s i ≡ v
  unfolding le_vec_at
  vec_back f = rw (float_back s i v.x f.x holds_x, float_back s (i + 4) v.y f.y holds_y, float_back s (i + 8) v.z f.z holds_z)

-- four bytes make a word
pub four_bytes : (s : List ℕ) (i a b c d : ℕ) → a ≡ u8_at s i → b ≡ u8_at s (i + 1) → c ≡ u8_at s (i + 2) → d ≡ u8_at s (i + 3)
    → a + b * 256 + c * 65536 + d * 16777216 ≡ le32_at s i
unfolding le32_at le16_at
four_bytes s i a b c d p q r t =
    let u : d ≡ u8_at s (i + 2 + 1) = t ∙ ap (λ (k : ℕ). get_or s k 0) (omega arith) in
    omega arith

-- ---- bytes that are the same are read as the same
pub le32_same : (s r : List ℕ) (i j : ℕ) → ((k : ℕ) → k < 4 → get_or s (i + k) 0 ≡ get_or r (j + k) 0) → le32_at s i ≡ le32_at r j
unfolding le32_at le16_at
le32_same s r i j h =
    let a : get_or s i 0 ≡ get_or r j 0 = ap (λ (k : ℕ). get_or s k 0) (omega arith) ∙ h 0 (omega arith) ∙ ap (λ (k : ℕ). get_or r k 0) (omega arith) in
    let d : get_or s (i + 2 + 1) 0 ≡ get_or r (j + 2 + 1) 0 = ap (λ (k : ℕ). get_or s k 0) (omega arith) ∙ h 3 (omega arith) ∙ ap (λ (k : ℕ). get_or r k 0) (omega arith) in
    rw (a, h 1 (omega arith), h 2 (omega arith), d)

pub vec_same : (s r : List ℕ) (i j : ℕ) → ((k : ℕ) → k < 12 → get_or s (i + k) 0 ≡ get_or r (j + k) 0) → le_vec_at s i ≡ le_vec_at r j
unfolding le_vec_at
vec_same s r i j h =
    rw (le32_same s r i j (λ k l. h k (omega arith)), le32_same s r (i + 4) (j + 4) (λ k l. behind 4 k (omega arith)), le32_same s r (i + 8) (j + 8) (λ k l. behind 8 k (omega arith)))
  where
    behind : (a k : ℕ) → a + k < 12 → get_or s (i + a + k) 0 ≡ get_or r (j + a + k) 0
    behind a k l =
        let e : i + a + k ≡ i + (a + k) = omega arith in
        let f : j + (a + k) ≡ j + a + k = omega arith in
        ap (λ (n : ℕ). get_or s n 0) e ∙ h (a + k) l ∙ ap (λ (n : ℕ). get_or r n 0) f
