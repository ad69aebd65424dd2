-- Lengths: the root of a finite f32 above 0 lies from 2 ^ -75 to 2 ^ 65; so a vector whose computed length is neither 0 nor infinite has, over that length, a component of
-- 2 ^ -140 at least. Nothing is asked of its components: they may be subnormal, huge or NaN. Assumes nothing.
use Rattle.std.specs.Prelude.{Some}
use mathlib.Core.Path.{◌≡◌, refl, sym, ap, ◌∙◌, subst}
use mathlib.Core.Logic.{◌⊎◌, inl, inr, ⊎_elim}
use Prim.Native.Nat.{ℕ, zero, suc, ◌+◌, ◌-◌, ◌*◌, ◌%◌, ◌^◌, ◌≤◌, ◌<◌, zero-le}
use native.Mathlib.Nat.{le_trans, le_of_eq, le_of_lt, le_of_suc-le-suc, lt_of_lt_of_le, lt_of_le_of_lt, lt_of_not-le, not-le_of_lt, zero-lt-suc, eq-zero-or-pos, zero-mul, one-mul, mul-one, mul-pos, mul_assoc, mul_left_comm, mul_right_comm, mul-le-mul, mul-le-mul_right, mul-lt-mul_of_pos_right, lt_of_mul-lt-mul_right, le_of_mul-le-mul_right}
use native.Mathlib.Omega.{arith}
use mathlib.Core.Bool.{Bool, true, false, ◌&&◌, true≢false}
use lib.IntN.{ℤ, pos, negsuc}
use lib.Dec.{T, ltb, ltb→lt, leb, leb→le, eqb, lit≤, lit<}
use lib.Pow.{pow-add, pow_pos, pow-lt}
use lib.Ieee.{Float, nan, inf, fin, binary32, up, down, neg, add, mul, div, eq, of_bits, fits}
use lib.Ieee.Fits.{and_l, and_r, up_pos, add-fits}
use lib.Ieee.Exact.{HasValue}
use lib.Ieee.Positive.{first_pos}
use Rattle.floats.specs.Floats.{root}
use Rattle.floats.proofs.Squares.{sq_lt}
use Rattle.floats.specs.Nearest.{IsNearest}
use Rattle.floats.proofs.NearestRoot.{root_is_nearest}
use Rattle.vectors.specs.declared.Vec3.{Vec3}
use Rattle.vectors.specs.Vec.{vec, vscale, vdot, vlength, vzero, lit, one, f/, f*, f+, direction_of}
use Rattle.sizes.proofs.Least.{zero_f, zero_is, Least, least_lit, Most, one_is, mul_least, over_least, faint, not_faint, faint_square}

-- ---- the root of what f32 holds is below 2 ^ 65
-- a value of the format is a whole number of its smallest values
whole_units : (m : ℕ) (e : ℤ) → down e ≤ 2 ^ 149 → (a : ℕ) × (m * up e * 2 ^ 149 ≡ a * down e)
whole_units m (pos k) h = (m * 2 ^ k * 2 ^ 149, sym (mul-one (m * 2 ^ k * 2 ^ 149)))
whole_units m (negsuc k) h =
    (m * 2 ^ (149 - suc k), ap (λ (x : ℕ). x * 2 ^ 149) (mul-one m) ∙ ap (λ (x : ℕ). m * x) (sym (ap (λ (x : ℕ). 2 ^ x) (join 149 (suc k) short)) ∙ pow-add 2 (149 - suc k) (suc k)) ∙ sym (mul_assoc m (2 ^ (149 - suc k)) (2 ^ suc k)))
  where
    join : (l k : ℕ) → k ≤ l → l - k + k ≡ l
    join l k h = omega arith

    short : suc k ≤ 149
    short = le_of_suc-le-suc (lt_of_not-le (λ (g : suc 149 ≤ suc k). not-le_of_lt (pow-lt g) h))

root_value_most : (x : Float) (r : ℕ) → HasValue x false r (2 ^ 149) → r ≤ 2 ^ 214 → Most 65 x
root_value_most nan r v h = absurd v
root_value_most (inf s) r v h = absurd v
root_value_most (fin t m e) r v h =
    le_of_mul-le-mul_right (le_trans (le_of_eq v.1) (le_trans (mul-le-mul_right (down e) h) (le_of_eq (ap (λ (x : ℕ). x * down e) (pow-add 2 65 149) ∙ mul_right_comm (2 ^ 65) (2 ^ 149) (down e))))) (pow_pos 149)

nearest_most : (a r : ℕ) → a < 2 ^ 277 → IsNearest binary32 (a * 2 ^ 149) r → r ≤ 2 ^ 214
nearest_most a r A h = elim (eq-zero-or-pos r) [
  | inl z ↦ le_trans (le_of_eq z) zero-le
  | inr p ↦ le_of_lt (sq_lt r (2 ^ 214) (lt_of_le_of_lt (subst (λ (x : ℕ). x * x ≤ 4 * (a * 2 ^ 149)) (flat r) (h.below 0 0 (pow_pos 24) p)) under))
]
  where
    flat : (r : ℕ) → r + 0 * 2 ^ 0 ≡ r
    flat r = omega arith

    under : 4 * (a * 2 ^ 149) < 2 ^ 214 * 2 ^ 214
    under = lt_of_le_of_lt (le_of_eq (mul_left_comm 4 a (2 ^ 149))) (mul-lt-mul_of_pos_right A (pow_pos 151))

pub fits_says : (m : ℕ) (e : ℤ) → T (fits binary32 (fin false (suc m) e)) → (down e ≤ 2 ^ 149) × (suc m * up e < 2 ^ 128 * down e)
unfolding fits
fits_says m e t =
    let a : Bool = eqb (suc m % 2) 1 in
    let b : Bool = ltb (suc m) (2 ^ 24) in
    let c : Bool = leb (down e) (2 ^ 149) in
    let d : Bool = ltb (suc m * up e) (2 ^ 128 * down e) in
    (leb→le (down e) (2 ^ 149) (and_r (a && b) c (and_l (a && b && c) d t)), ltb→lt (suc m * up e) (2 ^ 128 * down e) (and_r (a && b && c) d t))

-- and it is 2 ^ -75 at least
nearest_least : (a r : ℕ) → 0 < a → IsNearest binary32 (a * 2 ^ 149) r → 2 ^ 74 ≤ r
nearest_least a r P h = le_of_suc-le-suc (lt_of_not-le (λ (g : suc r ≤ 2 ^ 74). not-le_of_lt (lit< {m = 2 ^ 150} {n = 2 ^ 151} tt) (le_trans big (le_trans (h.above 1 74 (lit< tt) (lt_of_lt_of_le g (le_of_eq (sym (one-mul (2 ^ 74)))))) (mul-le-mul (under r g) (under r g))))))
  where
    under : (r : ℕ) → suc r ≤ 2 ^ 74 → r + 1 * 2 ^ 74 ≤ 2 ^ 75
    under r h = omega arith

    big : 2 ^ 151 ≤ 4 * (a * 2 ^ 149)
    big = le_trans (le_of_eq (sym (one-mul (2 ^ 151)))) (le_trans (mul-le-mul_right (2 ^ 151) P) (le_of_eq (sym (mul_left_comm 4 a (2 ^ 149)))))

pub root_range : (m : ℕ) (e : ℤ) → (down e ≤ 2 ^ 149) × (suc m * up e < 2 ^ 128 * down e) → (r : ℕ) × HasValue (root binary32 (fin false (suc m) e)) false r (2 ^ 149) × (r ≤ 2 ^ 214) × (2 ^ 74 ≤ r)
root_range m e h =
    let u = whole_units (suc m) e h.0 in
    let a = u.0 in
    let A : a < 2 ^ 277 =
    lt_of_mul-lt-mul_right (down e) (lt_of_le_of_lt (le_of_eq (sym u.1)) (lt_of_lt_of_le (mul-lt-mul_of_pos_right h.1 (pow_pos 149)) (le_of_eq (mul_right_comm (2 ^ 128) (down e) (2 ^ 149))))) in
    let P : 0 < a = first_pos a (down e) (subst (λ (z : ℕ). 0 < z) u.1 (mul-pos (mul-pos (zero-lt-suc m) (up_pos e)) (pow_pos 149))) in
    let r = root_is_nearest binary32 (fin false (suc m) e) a (refl, u.1) P A in
    (r.0, r.1, nearest_most a r.0 A r.2, nearest_least a r.0 P r.2)

above_zero_most : (m : ℕ) (e : ℤ) → (down e ≤ 2 ^ 149) × (suc m * up e < 2 ^ 128 * down e) → Most 65 (root binary32 (fin false (suc m) e))
above_zero_most m e h = let r = root_range m e h in root_value_most (root binary32 (fin false (suc m) e)) r.0 r.1 r.2

pub root_of_zero : (e : ℤ) → root binary32 (fin false 0 e) ≡ fin false 0 e
unfolding root
root_of_zero e = refl

pub root_most : (x : Float) → T (fits binary32 x) → (root binary32 x ≡ inf false → ⊥) → Most 65 (root binary32 x)
unfolding root fits
root_most nan t n = tt
root_most (inf true) t n = tt
root_most (inf false) t n = absurd (n refl)
root_most (fin s zero e) t n = le_trans (le_of_eq (zero-mul (up e))) zero-le
root_most (fin true (suc m) e) t n = tt
root_most (fin false (suc m) e) t n = above_zero_most m e (fits_says m e t)

plain : Float → Bool
plain nan = true
plain (inf s) = false
plain (fin s m e) = true

finite_nan : nan ≡ inf false → ⊥
unfolding plain
finite_nan e = true≢false (ap plain e)

finite_fin : (s : Bool) (m : ℕ) (d : ℤ) → fin s m d ≡ inf false → ⊥
unfolding plain
finite_fin s m d e = true≢false (ap plain e)

-- only an infinity has an infinite root
pub root_infinite : (x : Float) → T (fits binary32 x) → (x ≡ inf false → ⊥) → root binary32 x ≡ inf false → ⊥
unfolding root fits
root_infinite nan t n e = finite_nan e
root_infinite (inf true) t n e = n (absurd (finite_nan e))
root_infinite (inf false) t n e = n refl
root_infinite (fin s zero e) t n q = finite_fin s zero e q
root_infinite (fin true (suc m) e) t n q = finite_nan q
root_infinite (fin false (suc m) e) t n q = subst (λ (z : Float). Most 65 z) q (above_zero_most m e (fits_says m e t))

-- ---- a vector that is not dark: one of its components is 2 ^ -140 at least in size
abbrev pub Shines : Vec3 → Type 0
Shines v = Least 140 v.x ⊎ (Least 140 v.y ⊎ Least 140 v.z)

-- so it is not 0, of either sign
pub shines_lit : (v : Vec3) → Shines v → (eq v.x (lit 0) ≡ false) ⊎ ((eq v.y (lit 0) ≡ false) ⊎ (eq v.z (lit 0) ≡ false))
shines_lit v s = ⊎_elim (λ h. inl (not_zero v.x h)) (λ r. ⊎_elim (λ h. inr (inl (not_zero v.y h))) (λ h. inr (inr (not_zero v.z h))) r) s
  where
    not_zero : (x : Float) → Least 140 x → eq x (lit 0) ≡ false
    not_zero x h = subst (λ (z : Float). eq x z ≡ false) (sym zero_is) (least_lit 140 x h)

-- and turned round it is not dark either
minus_one : Least 0 (neg one)
unfolding of_bits neg
minus_one = lit≤ tt

pub turned_shines : (v : Vec3) → Shines v → Shines (vscale v (neg one))
unfolding vscale
turned_shines v s = ⊎_elim (λ h. inl (turned v.x h)) (λ r. ⊎_elim (λ h. inr (inl (turned v.y h))) (λ h. inr (inr (turned v.z h))) r) s
  where
    turned : (x : Float) → Least 140 x → Least 140 (f* x (neg one))
    turned x h = mul_least binary32 140 0 x (neg one) (lit≤ tt) h minus_one

-- ---- where every square vanishes, the length is 0
zeros : add binary32 (add binary32 zero_f zero_f) zero_f ≡ zero_f
unfolding add
zeros = refl

root_zero : root binary32 zero_f ≡ zero_f
unfolding root
root_zero = refl

pub zero_dark : eq zero_f (lit 0) ≡ true
unfolding of_bits eq
zero_dark = refl

pub faint_length : (a : Vec3) → faint a.x ≡ true → faint a.y ≡ true → faint a.z ≡ true → vlength a ≡ zero_f
unfolding vlength vdot
faint_length a h k l =
    ap (λ (u : Float). root binary32 (f+ (f+ u (f* a.y a.y)) (f* a.z a.z))) (faint_square a.x h)
    ∙ ap (λ (u : Float). root binary32 (f+ (f+ zero_f u) (f* a.z a.z))) (faint_square a.y k)
    ∙ ap (λ (u : Float). root binary32 (f+ (f+ zero_f zero_f) u)) (faint_square a.z l)
    ∙ ap (root binary32) zeros
    ∙ root_zero

length_most : (a : Vec3) → (vlength a ≡ inf false → ⊥) → Most 65 (vlength a)
unfolding vlength vdot
length_most a n = root_most (f+ (f+ (f* a.x a.x) (f* a.y a.y)) (f* a.z a.z)) (add-fits binary32 (f+ (f* a.x a.x) (f* a.y a.y)) (f* a.z a.z)) n

over_length : (a : Vec3) → (vlength a ≡ inf false → ⊥) → Least 65 (f/ one (vlength a))
over_length a n = subst (λ (u : Float). Least 65 (f/ u (vlength a))) (sym one_is) (over_least binary32 65 (vlength a) (lit≤ tt) (length_most a n))

times : (x y : Float) → faint x ≡ false → Least 65 y → Least 140 (f* x y)
times x y h k = mul_least binary32 75 65 x y (lit≤ tt) (not_faint x h) k

pub scaled_shines : (a : Vec3) → eq (vlength a) (lit 0) ≡ false → (vlength a ≡ inf false → ⊥) → Shines (vscale a (f/ one (vlength a)))
unfolding vscale
scaled_shines a h n = go (faint a.x) (faint a.y) (faint a.z) refl refl refl
  where
    go : (p q r : Bool) → faint a.x ≡ p → faint a.y ≡ q → faint a.z ≡ r → Shines (vscale a (f/ one (vlength a)))
    go false q r b c d = inl (times a.x (f/ one (vlength a)) b (over_length a n))
    go true false r b c d = inr (inl (times a.y (f/ one (vlength a)) c (over_length a n)))
    go true true false b c d = inr (inr (times a.z (f/ one (vlength a)) d (over_length a n)))
    go true true true b c d = absurd (true≢false (sym zero_dark ∙ sym (ap (λ (u : Float). eq u (lit 0)) (faint_length a b c d)) ∙ h))

-- that it be no infinity is needed: (2 ^ 65, 0, 0) has a length of infinity, and 1 over it is 0
pub bound_needed : direction_of (vec (lit 0x60000000) (lit 0) (lit 0)) ≡ Some vzero
unfolding direction_of vlength vdot vscale root add mul div eq of_bits
bound_needed = refl
