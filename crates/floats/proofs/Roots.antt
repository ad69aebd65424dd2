-- The square root of a value, over the format: it goes by the value, its pattern, and that it is the nearest. Assumes nothing.
use mathlib.Core.Path.{◌≡◌, refl, sym, ap, ◌∙◌, subst}
use mathlib.Core.Logic.{◌⊎◌, inr}
use Prim.Native.Nat.{ℕ, zero, suc, ◌+◌, ◌-◌, ◌*◌, ◌/◌, ◌^◌, ◌≤◌, ◌<◌, min, compare, Ordering}
use native.Mathlib.Nat.{le_trans, le_of_eq, lt_of_lt_of_le, lt_of_le_of_lt, lt_irrefl, zero-add, zero-mul, mul-pos, mul_assoc, mul_right_comm, mul-mul-mul_comm, mul-lt-mul_of_pos_right, mul-div_cancel, div-lt_iff_lt-mul, le-div_iff_mul-le}
use native.Mathlib.Numerals.{add-one}
use native.Mathlib.Omega.{arith}
use mathlib.Core.Bool.{Bool, true, false, not, true≢false, false≢true}
use lib.Dec.{T, leb, leb→le, nleb→lt}
use lib.Pow.{pow-add, pow_pos}
use lib.Ieee.{Float, nan, inf, fin, Format, prec, low, up, down, size, nearest, units, hid, ones, to_bits}
use lib.Ieee.Fits.{two, two-le_pos, down_pos, nearest-le}
use lib.Ieee.Nearest.{nearest-ge}
use lib.Ieee.Exact.{HasValue}
use Rattle.floats.specs.Floats.{floor_root, nearest_root, root}
use Rattle.floats.proofs.Grid.{dropped, pattern_units}
use Rattle.floats.proofs.Closest.{cmp_lt, cmp_gt}
use Rattle.floats.proofs.Squares.{Whole, Near, floor_root_is, whole_scale, sq_next, near_unique, near_down, near_up}

-- ---- the root goes by the value
pub root_at : (f : Format) (x : Float) (a : ℕ) → HasValue x false a (2 ^ low f) → 0 < a → root f x ≡ nearest_root f (a * 2 ^ low f)
unfolding root
root_at f nan a v h = absurd v
root_at f (inf t) a v h = absurd v
root_at f (fin true m e) a v h = absurd (true≢false v.0)
root_at f (fin false zero e) a v h = absurd (lt_irrefl 0 (subst (λ (x : ℕ). 0 < x) (sym v.1 ∙ ap (λ (x : ℕ). x * 2 ^ low f) (zero-mul (up e)) ∙ zero-mul (2 ^ low f)) (mul-pos h (down_pos e))))
root_at f (fin false (suc m) e) a v h =
    ap (nearest_root f) (ap (λ (x : ℕ). x * 2 ^ low f / down e) v.1 ∙ ap (λ (x : ℕ). x / down e) (mul_right_comm a (down e) (2 ^ low f)) ∙ mul-div_cancel (a * 2 ^ low f) (down_pos e))

-- a number below zero has none
pub root_negative : (f : Format) (x : Float) (a : ℕ) → HasValue x true a (2 ^ low f) → 0 < a → root f x ≡ nan
unfolding root
root_negative f nan a v h = absurd v
root_negative f (inf t) a v h = absurd v
root_negative f (fin false m e) a v h = absurd (false≢true v.0)
root_negative f (fin true zero e) a v h = absurd (lt_irrefl 0 (subst (λ (x : ℕ). 0 < x) (sym v.1 ∙ ap (λ (x : ℕ). x * 2 ^ low f) (zero-mul (up e)) ∙ zero-mul (2 ^ low f)) (mul-pos h (down_pos e))))
root_negative f (fin true (suc m) e) a v h = refl

-- ---- from m * c * c, c = 2 ^ k, with the whole root v of m of `prec` digits
module _ (f : Format) (m k v : ℕ) (w : Whole m v) (lo : hid f ≤ v) (hi : v < 2 ^ prec f) where
  halfway : ℕ
  halfway = (2 * v + 1) * 2 ^ k

  pick : Ordering
  pick = compare (4 * (m * (2 ^ k * 2 ^ k))) (halfway * halfway)

  nearest_root_is : nearest_root f (m * (2 ^ k * 2 ^ k)) ≡ units f false (nearest v pick) k
  unfolding nearest_root halfway pick
  nearest_root_is =
      let n = m * (2 ^ k * 2 ^ k) in
      let cut : floor_root n / 2 ^ k ≡ v = whole_scale m (2 ^ k) (floor_root n) v (pow_pos k) (floor_root_is n) w in
      let drops : size (floor_root n) - prec f ≡ k =
      dropped (prec f) k (floor_root n) (two-le_pos (prec f) (two f))
      (subst (λ (x : ℕ). floor_root n < x) (sym (pow-add 2 (prec f) k)) ((div-lt_iff_lt-mul (pow_pos k)).0 (subst (λ (x : ℕ). x < 2 ^ prec f) (sym cut) hi)))
      (inr (subst (λ (x : ℕ). x ≤ floor_root n) (sym (pow-add 2 (prec f - 1) k)) ((le-div_iff_mul-le (pow_pos k)).0 (subst (λ (x : ℕ). hid f ≤ x) (sym cut) lo)))) in
      ap (λ (j : ℕ). units f false (nearest (floor_root n / 2 ^ j) (compare (4 * n) ((2 * (floor_root n / 2 ^ j) + 1) * 2 ^ j * ((2 * (floor_root n / 2 ^ j) + 1) * 2 ^ j)))) j) drops
      ∙ ap (λ (q : ℕ). units f false (nearest q (compare (4 * n) ((2 * q + 1) * 2 ^ k * ((2 * q + 1) * 2 ^ k)))) k) cut

  c2 : 0 < 2 ^ k * 2 ^ k
  c2 = mul-pos (pow_pos k) (pow_pos k)

  square : halfway * halfway ≡ (4 * (v * v + v) + 1) * (2 ^ k * 2 ^ k)
  unfolding halfway
  square = mul-mul-mul_comm (2 * v + 1) (2 ^ k) (2 * v + 1) (2 ^ k) ∙ ap (λ (x : ℕ). x * (2 ^ k * 2 ^ k)) (sq_next (2 * v) ∙ ap (λ (x : ℕ). x + 2 * v + 2 * v + 1) (mul-mul-mul_comm 2 v 2 v) ∙ tidy (v * v) v)
    where
      tidy : (x v : ℕ) → 4 * x + 2 * v + 2 * v + 1 ≡ 4 * (x + v) + 1
      tidy x v = omega arith

  -- the one that is kept is the nearest whole number to √m
  kept_near : Near m (nearest v pick)
  unfolding pick
  kept_near = go (leb m (v * v + v)) (leb→le m (v * v + v)) (nleb→lt m (v * v + v))
    where
      down_side : m ≤ v * v + v → pick ≡ Ordering.lt
      down_side h = cmp_lt (4 * (m * (2 ^ k * 2 ^ k))) (halfway * halfway)
          (lt_of_le_of_lt (le_of_eq (sym (mul_assoc 4 m (2 ^ k * 2 ^ k)))) (lt_of_lt_of_le (mul-lt-mul_of_pos_right (less m (v * v + v) h) c2) (le_of_eq (sym square))))
        where
          less : (m x : ℕ) → m ≤ x → 4 * m < 4 * x + 1
          less m x h = omega arith

      up_side : v * v + v < m → pick ≡ Ordering.gt
      up_side h = cmp_gt (4 * (m * (2 ^ k * 2 ^ k))) (halfway * halfway)
          (lt_of_le_of_lt (le_of_eq square) (lt_of_lt_of_le (mul-lt-mul_of_pos_right (more m (v * v + v) h) c2) (le_of_eq (mul_assoc 4 m (2 ^ k * 2 ^ k)))))
        where
          more : (m x : ℕ) → x < m → 4 * x + 1 < 4 * m
          more m x h = omega arith

      go : (b : Bool) → (T b → m ≤ v * v + v) → (T (not b) → v * v + v < m) → Near m (nearest v pick)
      go true a b = subst (λ (o : Ordering). Near m (nearest v o)) (sym (down_side (a tt))) (near_down m v (lt_of_lt_of_le (pow_pos (prec f - 1)) lo) w (a tt))
      go false a b = subst (λ (o : Ordering). Near m (nearest v o)) (sym (up_side (b tt))) (subst (λ (x : ℕ). Near m x) (add-one v) (near_up m v w (b tt)))

  pub near_pattern : (q : ℕ) → Near m q → to_bits f (nearest_root f (m * (2 ^ k * 2 ^ k))) ≡ min (k * hid f + q) (ones f * hid f)
  near_pattern q n =
      ap (to_bits f) (nearest_root_is ∙ ap (λ (x : ℕ). units f false x k) e)
      ∙ pattern_units f false q k (subst (λ (x : ℕ). (x ≤ 2 ^ prec f) × ((k ≡ 0) ⊎ (hid f ≤ x))) e (le_trans (nearest-le v pick) hi, inr (le_trans lo (nearest-ge v pick))))
      ∙ zero-add (min (k * hid f + q) (ones f * hid f))
    where
      e : nearest v pick ≡ q
      e = near_unique m (nearest v pick) q kept_near n
