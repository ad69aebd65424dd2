-- What the proofs of this crate share, and those of writers of records. Assumes nothing.
use Prim.Native.Nat.{ℕ, ◌+◌, ◌*◌, ◌/◌, ◌%◌, ◌≤◌, ◌<◌}
use mathlib.Core.Path.{◌≡◌, refl, sym, ap, ◌∙◌}
use mathlib.Core.List.{List, [], ◌∷◌, ◌++◌, append_assoc, append-nil}
use native.Mathlib.Nat.{suc-mul, mul-le-mul_right}
use native.Mathlib.Numerals.{add-one}
use native.Mathlib.Omega.{arith}
use lib.ListN.{length, length-append, get_or, take}
use lib.Seq.{length-take-le}
use Rattle.std.proofs.lemmas.List.{take_more}
use Rattle.lists.specs.Put.{put}
use Rattle.lists.proofs.Puts.{next}
use Rattle.numbers.specs.Bytes.{u16, u32, u64}
use Rattle.numbers.specs.Words.{all_bytes}

pub len16 : (n : ℕ) → length (u16 n) ≡ 2
unfolding u16
len16 n = refl

pub len32 : (n : ℕ) → length (u32 n) ≡ 4
unfolding u16 u32
len32 n = refl

pub len64 : (n : ℕ) → length (u64 n) ≡ 8
unfolding u16 u32 u64
len64 n = refl

-- xs is written, w long, and what comes after it
pub seq : (l b : List ℕ) (i j w : ℕ) (xs ys : List ℕ) {b' : List ℕ} → length xs ≡ w → j ≡ i + w → b ≡ put l i xs → b' ≡ put b j ys → b' ≡ put l i (xs ++ ys)
seq l b i j w xs ys q h e e' = next l b i j xs ys e' e (h ∙ ap (λ (n : ℕ). i + n) (sym q))

-- a word's four bytes, each from the word itself
pub word_bytes : (w : ℕ) → w < 4294967296 → w / 16777216 ∷ w / 65536 % 256 ∷ w / 256 % 256 ∷ w % 256 ∷ [] ≡ u32 w
unfolding u32 u16
word_bytes w h = ap (λ (x : ℕ). x ∷ w / 65536 % 256 ∷ w / 256 % 256 ∷ w % 256 ∷ []) (omega arith)

-- the bytes of a list's values, each value w long
module _ {A : Type 0} (f : A → List ℕ) where
  pub all_bytes_append : (l m : List A) → all_bytes f (l ++ m) ≡ all_bytes f l ++ all_bytes f m
  unfolding all_bytes
  all_bytes_append [] m = refl
  all_bytes_append (x ∷ l) m = ap (λ (b : List ℕ). f x ++ b) (all_bytes_append l m) ∙ sym (append_assoc (f x) (all_bytes f l) (all_bytes f m))

  -- one value more
  pub all_bytes_more : (l : List A) (i : ℕ) (x : A) → i < length l → x ≡ get_or l i x → all_bytes f (take (i + 1) l) ≡ all_bytes f (take i l) ++ f x
  unfolding all_bytes
  all_bytes_more l i x within read =
      ap (all_bytes f) (take_more l i x within ∙ ap (λ (y : A). take i l ++ (y ∷ [])) (sym read))
      ∙ all_bytes_append (take i l) (x ∷ []) ∙ ap (λ (b : List ℕ). all_bytes f (take i l) ++ b) (append-nil (f x))

  module _ (w : ℕ) (long : (x : A) → length (f x) ≡ w) where
    pub length_all_bytes : (l : List A) → length (all_bytes f l) ≡ length l * w
    unfolding all_bytes
    length_all_bytes [] = omega arith
    length_all_bytes (x ∷ l) = simp (length-append, long x, length_all_bytes l) (omega (arith, suc-mul (length l) w))

    pub length_front : (l : List A) (i : ℕ) → i ≤ length l → length (all_bytes f (take i l)) ≡ i * w
    length_front l i h = length_all_bytes (take i l) ∙ ap (λ (k : ℕ). k * w) (length-take-le i l h)

-- a place of w bytes more lies within as many as n places have
pub one_more : (i n w : ℕ) → i < n → (i * w + w ≤ n * w) × ((i + 1) * w ≡ i * w + w)
one_more i n w h = (omega (arith, up, over), over)
  where
    over : (i + 1) * w ≡ i * w + w
    over = ap (λ (k : ℕ). k * w) (add-one i) ∙ suc-mul i w

    up : (i + 1) * w ≤ n * w
    up = mul-le-mul_right w (omega (arith, h))
