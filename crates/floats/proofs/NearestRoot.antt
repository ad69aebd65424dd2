-- The root is the nearest, in plain arithmetic and over the format: `IsNearest` of specs/Nearest. `root_of_bits`: that
-- of every f32 above zero, by its bits. Assumes nothing.
use mathlib.Core.Path.{◌≡◌, sym, ap, ◌∙◌, subst}
use Prim.Native.Nat.{ℕ, zero, suc, ◌+◌, ◌-◌, ◌*◌, ◌/◌, ◌%◌, ◌^◌, ◌≤◌, ◌<◌, compare, Ordering}
use native.Mathlib.Nat.{le_trans, le_of_eq, le_of_lt, lt_of_lt_of_le, lt_of_le_of_lt, lt-suc_self, zero-lt-suc, mul-mul-mul_comm, mul-le-mul, mul-le-mul_left, mul-lt-mul_of_pos_right, mul-pos, div-lt_iff_lt-mul, div-mul-le_self, two-mul, mul_left_comm, add-zero}
use native.Mathlib.Numerals.{add-one}
use native.Mathlib.Omega.{arith}
use mathlib.Core.Bool.{Bool, true, false, not}
use lib.Dec.{T, ltb, ltb→lt, nltb→le, lit≤}
use lib.Pow.{pow-add, pow_pos, pow_mono}
use lib.Ieee.{Float, Format, binary32, binary64, prec, emax, low, size, nearest, of_bits}
use lib.Ieee.Fits.{kept-lt}
use lib.Ieee.Exact.{HasValue, units_val}
use lib.Ieee.Scale.{overflow}
use Rattle.floats.specs.Floats.{floor_root, nearest_root, root}
use Rattle.floats.specs.Nearest.{IsNearest}
use Rattle.floats.proofs.Closest.{cmp}
use Rattle.floats.proofs.Squares.{floor_root_is, sq_lt}
use Rattle.floats.proofs.Roots.{root_at}
use Rattle.floats.proofs.RootBits.{small_value, normal_value}
use Rattle.floats.proofs.NearestValue.{NearestBy, leading, picked, only}

sq_more : (a b : ℕ) → a < b → a * a < b * b
sq_more a b h = lt_of_le_of_lt (mul-le-mul_left a (le_of_lt h)) (mul-lt-mul_of_pos_right h (above_some a b h))
  where
    above_some : (a b : ℕ) → a < b → 0 < b
    above_some a b h = omega arith

quad : (x : ℕ) → (x + x) * (x + x) ≡ 4 * (x * x)
quad x = ap (λ (y : ℕ). y * y) (sym (two-mul x)) ∙ mul-mul-mul_comm 2 x 2 x

-- there is one nearest to √n
pub one_nearest : (f : Format) (n r s : ℕ) → IsNearest f n r → IsNearest f n s → r ≡ s
one_nearest f n r s R S =
    only f (λ (x : ℕ). x * x) sq_more (4 * n) r s
    (record { held = R.held; below = R.below; above = R.above; tie = R.tie })
    (record { held = S.held; below = S.below; above = S.above; tie = S.tie })

module _ (f : Format) (n : ℕ) where
  w : ℕ
  w = floor_root n

  k : ℕ
  k = size w - prec f

  v : ℕ
  v = w / 2 ^ k

  lower : (v * 2 ^ k + v * 2 ^ k) * (v * 2 ^ k + v * 2 ^ k) ≤ 4 * n
  unfolding v w
  lower =
      let whole : v * 2 ^ k ≤ w = div-mul-le_self w (2 ^ k) in
      le_trans (le_of_eq (quad (v * 2 ^ k))) (mul-le-mul_left 4 (le_trans (mul-le-mul whole whole) (floor_root_is n).0))

  upper : 4 * n < (suc v * 2 ^ k + suc v * 2 ^ k) * (suc v * 2 ^ k + suc v * 2 ^ k)
  unfolding v w
  upper =
      let r = suc v * 2 ^ k in
      let next : w + 1 ≤ r = le_trans (le_of_eq (add-one w)) ((div-lt_iff_lt-mul (pow_pos k)).0 (lt-suc_self v)) in
      lt_of_lt_of_le (four n (r * r) (lt_of_lt_of_le (floor_root_is n).1 (mul-le-mul next next))) (le_of_eq (sym (quad r)))
    where
      four : (x y : ℕ) → x < y → 4 * x < 4 * y
      four x y h = omega arith

  o : Ordering
  o = compare (4 * n) ((2 * v + 1) * 2 ^ k * ((2 * v + 1) * 2 ^ k))

  pub kept : ℕ
  kept = nearest v o * 2 ^ k

  pub kept_nearest : IsNearest f n kept
  unfolding kept o v k
  kept_nearest =
      let p : NearestBy f (λ (x : ℕ). x * x) (4 * n) kept =
      picked f (λ (x : ℕ). x * x) sq_more (4 * n) v k (kept-lt (prec f) w) (leading f w) lower upper
      o (cmp (4 * n) ((2 * v + 1) * 2 ^ k * ((2 * v + 1) * 2 ^ k))) in
      record { held = p.held; below = p.below; above = p.above; tie = p.tie }

  pub kept_value : kept < overflow f → HasValue (nearest_root f n) false kept (2 ^ low f)
  unfolding nearest_root kept o v k w
  kept_value h = units_val f false (nearest v o) k h

-- it is at most twice √n, since 0 is a value
at_most : (f : Format) (n r : ℕ) → IsNearest f n r → r * r ≤ 4 * n
at_most f n zero h = omega arith
at_most f n (suc r) h =
    subst (λ (x : ℕ). x * x ≤ 4 * n) (add-zero (suc r)) (h.below 0 0 (pow_pos (prec f)) (zero-lt-suc r))

-- ---- the root of every x above zero
tall : (f : Format) → 2 + low f ≤ low f + suc (emax f)
tall binary32 = lit≤ tt
tall binary64 = lit≤ tt

-- x is a of f's smallest values, and its root r of them, the nearest to √x. That every f32 above zero has such an a is
-- in `root_of_bits`
pub root_is_nearest : (f : Format) (x : Float) (a : ℕ) → HasValue x false a (2 ^ low f) → 0 < a → a < overflow f
    → (r : ℕ) × HasValue (root f x) false r (2 ^ low f) × IsNearest f (a * 2 ^ low f) r
root_is_nearest f x a h p l =
    let n = a * 2 ^ low f in
    let r = kept f n in
    let fine : r < overflow f =
    sq_lt r (overflow f)
    (lt_of_le_of_lt (at_most f n r (kept_nearest f n))
    (lt_of_le_of_lt (le_of_eq (mul_left_comm 4 a (2 ^ low f) ∙ ap (λ (y : ℕ). a * y) (sym (pow-add 2 2 (low f)))))
    (lt_of_lt_of_le (mul-lt-mul_of_pos_right l (pow_pos (2 + low f))) (mul-le-mul_left (overflow f) (pow_mono (tall f)))))) in
    let is : HasValue (root f x) false r (2 ^ low f) =
    subst (λ (y : Float). HasValue y false r (2 ^ low f)) (sym (root_at f x a h p)) (kept_value f n fine) in
    (r, is, kept_nearest f n)

-- ---- every f32 above zero, by its bits

-- it is a of the smallest values
some_value : (b : ℕ) → 0 < b → b < 255 * 2 ^ 23
    → (a : ℕ) × HasValue (of_bits binary32 b) false a (2 ^ low binary32) × (0 < a) × (a < overflow binary32)
some_value b p l = go (ltb b (2 ^ 23)) (ltb→lt b (2 ^ 23)) (nltb→le b (2 ^ 23))
  where
    low_fits : (b : ℕ) → b < 2 ^ 23 → b * 2 ^ 0 < overflow binary32
    low_fits b h = lt_of_lt_of_le (mul-lt-mul_of_pos_right h (pow_pos 0)) (lit≤ tt)

    some : (t : ℕ) → 0 < 2 ^ 23 + t
    some t = omega arith

    most : (b : ℕ) → 2 ^ 23 + b % 2 ^ 23 < 2 ^ 24
    most b = omega arith

    top : (b : ℕ) → b < 255 * 2 ^ 23 → b / 2 ^ 23 - 1 ≤ 253
    top b h = omega arith

    fits : (m x : ℕ) → m < 2 ^ 24 → x ≤ 253 → m * 2 ^ x < overflow binary32
    fits m x h k =
        lt_of_lt_of_le (mul-lt-mul_of_pos_right h (pow_pos x))
        (le_trans (mul-le-mul_left (2 ^ 24) (pow_mono k)) (lit≤ tt))

    go : (t : Bool) → (T t → b < 2 ^ 23) → (T (not t) → 2 ^ 23 ≤ b)
        → (a : ℕ) × HasValue (of_bits binary32 b) false a (2 ^ low binary32) × (0 < a) × (a < overflow binary32)
    go true u v = (b * 2 ^ 0, small_value b (u tt), mul-pos p (pow_pos 0), low_fits b (u tt))
    go false u v =
        let x = b / 2 ^ 23 - 1 in
        let t = b % 2 ^ 23 in
        let room : (2 ^ 23 + t) * 2 ^ x < overflow binary32 = fits (2 ^ 23 + t) x (most b) (top b l) in
        ((2 ^ 23 + t) * 2 ^ x, normal_value b (v tt) l, mul-pos (some t) (pow_pos x), room)

-- of every f32 above zero, by its bits, those above 0 and below 7F800000, infinity's: it is a of the smallest values,
-- and its root r of them, the nearest
pub root_of_bits : (b : ℕ) → 0 < b → b < 0x7f80_0000
    → (a : ℕ) × (r : ℕ) × HasValue (of_bits binary32 b) false a (2 ^ low binary32)
    × HasValue (root binary32 (of_bits binary32 b)) false r (2 ^ low binary32)
    × IsNearest binary32 (a * 2 ^ low binary32) r
root_of_bits b p l =
    let v = some_value b p l in
    let w = root_is_nearest binary32 (of_bits binary32 b) v.0 v.1 v.2 v.3 in
    (v.0, w.0, v.1, w.1, w.2)
