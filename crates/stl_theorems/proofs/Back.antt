-- What was written is read back: the count, and each facet's normal and corners, as floats and as words. Assumes nothing.
use Prim.Native.Nat.{ℕ, zero, suc, ◌+◌, ◌*◌, ◌<◌}
use mathlib.Core.Bool.{Bool, true, false, cond}
use mathlib.Core.List.{List, [], ◌∷◌, ◌++◌}
use mathlib.Core.Path.{◌≡◌, sym, ap, ◌∙◌, subst}
use native.Mathlib.Nat.{mod-eq_of_lt}
use native.Mathlib.Omega.{arith}
use lib.ListN.{length, get_or, replicate, length-replicate}
use lib.Seq.{get_or-append-add}
use lib.Ieee.{Float, nan, binary32, to_bits, eq}
use lib.Ieee.Bits.{of_bits-fits}
use lib.Ieee.Fits.{mul-fits}
use Rattle.lists.specs.Put.{upto}
use Rattle.lists.proofs.Puts.{upto_at, upto_same}
use Rattle.numbers.proofs.Readback.{Holds, holds_all, holds_front, holds_back, holds_moved}
use Rattle.vectors.specs.declared.Vec3.{Vec3}
use Rattle.vectors.specs.Vec.{lit, vzero, vscale, vsub, vcross, vlength, one, f/, normalised, floats, vec_at}
use Rattle.little.specs.Little.{le32, le32_at, le_float, le_float_at, le_vec, le_vec_at}
use Rattle.little.proofs.Laws.{long_vec, le32_back, IsF32, VecIsF32, bits_back, float_back, holds_x, holds_y, holds_z, vec_back}
use Rattle.facets.specs.Facets.{facet_normal, facet_bytes, corner_at, facet_at, facets_of, stl_head, stl_bytes, count_in, facet_place, one_normal, one_corners, listed_normals, listed_corners}
use Rattle.facets.proofs.Laws.{long_at, long_head, long_normal, long_corners}
use Rattle.stl_theorems.specs.Floats.{AllF32, corner_floats, normal_floats, word_in}

-- ---- f32 values

normal_by : (b : Bool) (v : Vec3) (k : Float) → VecIsF32 (cond b vzero (vscale v k))
unfolding vscale
normal_by true v k = record { x = of_bits-fits binary32 0; y = of_bits-fits binary32 0; z = of_bits-fits binary32 0 }
normal_by false v k = record { x = mul-fits binary32 _ _; y = mul-fits binary32 _ _; z = mul-fits binary32 _ _ }

-- a facet normal is one whatever the corners are
normal_f32 : (a b c : Vec3) → VecIsF32 (facet_normal a b c)
unfolding facet_normal normalised
normal_f32 a b c = let w = vcross (vsub b a) (vsub c a) in normal_by (eq (vlength w) (lit 0)) w (f/ one (vlength w))

corner_f32 : (ps : List Float) (l : List ℕ) (j : ℕ) → AllF32 ps → VecIsF32 (corner_at ps l j)
unfolding vec_at
corner_f32 ps l j f = record { x = f (3 * get_or l j 0); y = f (3 * get_or l j 0 + 1); z = f (3 * get_or l j 0 + 2) }

-- ---- a vector's words

bits_same : (s : List ℕ) (i : ℕ) (x : Float) → IsF32 x → Holds s i (le_float x) → to_bits binary32 (le_float_at s i) ≡ le32_at s i
bits_same s i x f h = ap (to_bits binary32) (float_back s i x f h) ∙ sym (bits_back s i x f h)

vec_bits : (s : List ℕ) (i : ℕ) (v : Vec3) → VecIsF32 v → Holds s i (le_vec v) → (j : ℕ) → j < 3
    → to_bits binary32 (get_or (floats (le_vec_at s i)) j nan) ≡ le32_at s (i + 4 * j)
unfolding le_vec_at
vec_bits s i v f h zero l = bits_same s i v.x f.x (holds_x s i v h) ∙ ap (le32_at s) (omega arith)
vec_bits s i v f h (suc zero) l = bits_same s (i + 4) v.y f.y (holds_y s i v h)
vec_bits s i v f h (suc (suc zero)) l = bits_same s (i + 8) v.z f.z (holds_z s i v h)
vec_bits s i v f h (suc (suc (suc j))) l = absurd (omega arith)

-- ---- a facet's four vectors
module _ (s : List ℕ) (at : ℕ) (a b c : Vec3) (h : Holds s at (facet_bytes a b c)) where
  abbrev four : List ℕ
  four = le_vec c ++ (0 ∷ 0 ∷ [])

  holds_normal : Holds s at (le_vec (facet_normal a b c))
  unfolding facet_bytes
  holds_normal = holds_front s at (le_vec (facet_normal a b c)) (le_vec a ++ (le_vec b ++ four)) h

  behind_normal : Holds s (at + 12) (le_vec a ++ (le_vec b ++ four))
  unfolding facet_bytes
  behind_normal = holds_back s at (le_vec (facet_normal a b c)) (le_vec a ++ (le_vec b ++ four)) h 12 (long_vec (facet_normal a b c))

  holds_a : Holds s (at + 12) (le_vec a)
  holds_a = holds_front s (at + 12) (le_vec a) (le_vec b ++ four) behind_normal

  behind_a : Holds s (at + 24) (le_vec b ++ four)
  behind_a = holds_moved s (at + 12 + 12) (at + 24) _ (omega arith) (holds_back s (at + 12) (le_vec a) (le_vec b ++ four) behind_normal 12 (long_vec a))

  holds_b : Holds s (at + 24) (le_vec b)
  holds_b = holds_front s (at + 24) (le_vec b) four behind_a

  holds_c : Holds s (at + 36) (le_vec c)
  holds_c =
      holds_front s (at + 36) (le_vec c) (0 ∷ 0 ∷ [])
      (holds_moved s (at + 24 + 12) (at + 36) _ (omega arith) (holds_back s (at + 24) (le_vec b) four behind_a 12 (long_vec b)))

-- ---- a file
module _ (ps : List Float) (corners : List ℕ) (t : ℕ) where
  abbrev file : List ℕ
  file = stl_bytes ps corners t

  holds_head : Holds file 0 (stl_head t)
  unfolding stl_bytes
  holds_head = holds_front file 0 (stl_head t) (facets_of ps corners t) (holds_all file)

  -- its count is t
  pub count_back : t < 4294967296 → count_in file ≡ t
  unfolding stl_head
  count_back h =
      le32_back file 80 t (holds_back file 0 (replicate 80 0) (le32 t) holds_head 80 (length-replicate {A = ℕ} 80 0)) ∙ mod-eq_of_lt h

  -- facet i stands in its place
  holds_facet : (i : ℕ) → i < t → Holds file (facet_place i) (facet_at ps corners i)
  unfolding stl_bytes facets_of
  holds_facet i h = record {
    at = λ q n.
        ap (λ (k : ℕ). get_or file k 0) (place q) ∙ get_or-append-add (stl_head t) (facets_of ps corners t) (i * 50 + q) 0
        ∙ upto_at (facet_at ps corners) 50 t i q 0 (long_at ps corners) h (subst (λ (k : ℕ). q < k) (long_at ps corners i) n);
  }
    where
      place : (q : ℕ) → 84 + 50 * i + q ≡ length (stl_head t) + (i * 50 + q)
      place q = omega (arith, long_head t)

  abbrev corner : ℕ → Vec3
  corner j = corner_at ps corners j

  module _ (f : AllF32 ps) (i : ℕ) (h : i < t) where
    holds : Holds file (facet_place i) (facet_bytes (corner (3 * i)) (corner (3 * i + 1)) (corner (3 * i + 2)))
    unfolding facet_at
    holds = holds_facet i h

    normal_back : one_normal file i ≡ floats (facet_normal (corner (3 * i)) (corner (3 * i + 1)) (corner (3 * i + 2)))
    unfolding one_normal
    normal_back = ap floats (vec_back file (facet_place i) _ (holds_normal file (facet_place i) _ _ _ holds) (normal_f32 _ _ _))

    corners_back : one_corners file i ≡ floats (corner (3 * i)) ++ (floats (corner (3 * i + 1)) ++ floats (corner (3 * i + 2)))
    unfolding one_corners
    corners_back =
        rw (
          vec_back file (facet_place i + 12) (corner (3 * i)) (holds_a file (facet_place i) _ _ _ holds) (corner_f32 ps corners (3 * i) f),
          vec_back file (facet_place i + 24) (corner (3 * i + 1)) (holds_b file (facet_place i) _ _ _ holds) (corner_f32 ps corners (3 * i + 1) f),
          vec_back file (facet_place i + 36) (corner (3 * i + 2)) (holds_c file (facet_place i) _ _ _ holds) (corner_f32 ps corners (3 * i + 2) f),
        )

  -- so are all
  pub normals_back : AllF32 ps → listed_normals file t ≡ normal_floats ps corners t
  unfolding listed_normals normal_floats
  normals_back f = upto_same _ _ t (λ i h. normal_back f i h)

  pub all_corners_back : AllF32 ps → listed_corners file t ≡ corner_floats ps corners t
  unfolding listed_corners corner_floats
  all_corners_back f = upto_same _ _ t (λ i h. corners_back f i h)

  -- ---- and so are the words: float j of facet i's normal, and of its nine corner floats
  module _ (f : AllF32 ps) (i j : ℕ) (h : i < t) where
    normal_bits : j < 3 → to_bits binary32 (get_or (one_normal file i) j nan) ≡ word_in file i j
    unfolding one_normal
    normal_bits l = vec_bits file (facet_place i) _ (normal_f32 _ _ _) (holds_normal file (facet_place i) _ _ _ (holds f i h)) j l

    pub listed_normal_bits : j < 3 → to_bits binary32 (get_or (listed_normals file t) (3 * i + j) nan) ≡ word_in file i j
    unfolding listed_normals
    listed_normal_bits l =
        ap (λ (k : ℕ). to_bits binary32 (get_or (upto (one_normal file) t) k nan)) (omega arith)
        ∙ ap (to_bits binary32) (upto_at (one_normal file) 3 t i j nan (long_normal file) h l) ∙ normal_bits l

  module _ (f : AllF32 ps) (i : ℕ) (h : i < t) where
    abbrev at : ℕ
    at = facet_place i

    corner_word : (k a : ℕ) (v : Vec3) → VecIsF32 v → Holds file (at + k) (le_vec v) → (b : ℕ) → b < 3 → k + 4 * b ≡ 4 * (3 + a)
        → to_bits binary32 (get_or (floats (le_vec_at file (at + k))) b nan) ≡ word_in file i (3 + a)
    corner_word k a v g w b l e = vec_bits file (at + k) v g w b l ∙ ap (le32_at file) (omega arith)

    first : (a b : ℕ) → b < 3 → 12 + 4 * b ≡ 4 * (3 + a) → to_bits binary32 (get_or (floats (le_vec_at file (at + 12))) b nan) ≡ word_in file i (3 + a)
    first a b l e = corner_word 12 a (corner (3 * i)) (corner_f32 ps corners (3 * i) f) (holds_a file at _ _ _ (holds f i h)) b l e

    second : (a b : ℕ) → b < 3 → 24 + 4 * b ≡ 4 * (3 + a) → to_bits binary32 (get_or (floats (le_vec_at file (at + 24))) b nan) ≡ word_in file i (3 + a)
    second a b l e = corner_word 24 a (corner (3 * i + 1)) (corner_f32 ps corners (3 * i + 1) f) (holds_b file at _ _ _ (holds f i h)) b l e

    third : (a b : ℕ) → b < 3 → 36 + 4 * b ≡ 4 * (3 + a) → to_bits binary32 (get_or (floats (le_vec_at file (at + 36))) b nan) ≡ word_in file i (3 + a)
    third a b l e = corner_word 36 a (corner (3 * i + 2)) (corner_f32 ps corners (3 * i + 2) f) (holds_c file at _ _ _ (holds f i h)) b l e

    corner_bits : (j : ℕ) → j < 9 → to_bits binary32 (get_or (one_corners file i) j nan) ≡ word_in file i (3 + j)
    unfolding one_corners
    corner_bits zero l = first 0 0 (omega arith) (omega arith)
    corner_bits (suc zero) l = first 1 1 (omega arith) (omega arith)
    corner_bits (suc (suc zero)) l = first 2 2 (omega arith) (omega arith)
    corner_bits (suc (suc (suc zero))) l = second 3 0 (omega arith) (omega arith)
    corner_bits (suc (suc (suc (suc zero)))) l = second 4 1 (omega arith) (omega arith)
    corner_bits (suc (suc (suc (suc (suc zero))))) l = second 5 2 (omega arith) (omega arith)
    corner_bits (suc (suc (suc (suc (suc (suc zero)))))) l = third 6 0 (omega arith) (omega arith)
    corner_bits (suc (suc (suc (suc (suc (suc (suc zero))))))) l = third 7 1 (omega arith) (omega arith)
    corner_bits (suc (suc (suc (suc (suc (suc (suc (suc zero)))))))) l = third 8 2 (omega arith) (omega arith)
    corner_bits (suc (suc (suc (suc (suc (suc (suc (suc (suc j))))))))) l = absurd (omega arith)

    pub listed_corner_bits : (j : ℕ) → j < 9 → to_bits binary32 (get_or (listed_corners file t) (9 * i + j) nan) ≡ word_in file i (3 + j)
    unfolding listed_corners
    listed_corner_bits j l =
        ap (λ (k : ℕ). to_bits binary32 (get_or (upto (one_corners file) t) k nan)) (omega arith)
        ∙ ap (to_bits binary32) (upto_at (one_corners file) 9 t i j nan (long_corners file) h l) ∙ corner_bits j l
