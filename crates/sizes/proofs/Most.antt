-- Sizes from above, by powers of two: what is at most 2 ^ j in size rounds to at most 2 ^ j, so a sum is one power more, and a product has the sum of the two. So a vector
-- whose components are finite and not too large has a length that is no infinity, and a direction whose components are finite. Assumes nothing.
use Rattle.std.specs.Prelude.{None}
use mathlib.Core.Path.{◌≡◌, refl, sym, ap, ◌∙◌, subst}
use Prim.Native.Nat.{ℕ, zero, suc, ◌+◌, ◌-◌, ◌*◌, ◌/◌, ◌%◌, ◌^◌, ◌≤◌, ◌<◌}
use native.Mathlib.Nat.{two-pow-succ, le_refl, le_trans, le_of_eq, lt_of_lt_of_le, lt_of_le_of_lt, lt_irrefl, zero-mul, one-mul, mul-one, mul-pos, mul_comm, mul_assoc, mul_right_comm, mul-mul-mul_comm, mul-le-mul, mul-le-mul_right, le_of_mul-le-mul_right, div-lt_iff_lt-mul, div-one, add-mul, mul-lt-mul_of_pos_right}
use native.Mathlib.Omega.{arith}
use mathlib.Core.Bool.{Bool, true, false, cond, beq, ◌&&◌, ◌||◌, true≢false}
use lib.IntN.{ℤ}
use lib.Dec.{T, ltb, eqb, eqb→eq, lit≤}
use lib.Pow.{pow-add, pow_pos, pow_mono, pow-lt}
use lib.Ieee.{Float, nan, inf, fin, Format, binary32, prec, emax, low, up, down, unlike, size, round, neg, sum, add, sub, mul, div, eq, fits}
use lib.Ieee.Digits.{size-le}
use lib.Ieee.Fits.{and_i, eq→eqb, two, two-le_pos, down_pos, round_is, add-fits}
use lib.Ieee.Exact.{HasValue, units_val}
use lib.Ieee.Nearest.{closest, closest_mono}
use lib.Ieee.Order.{drop, kept}
use lib.Ieee.Positive.{first_pos}
use Rattle.floats.specs.Floats.{root}
use Rattle.floats.proofs.Closest.{closest_down}
use Rattle.vectors.specs.declared.Vec3.{Vec3}
use Rattle.vectors.proofs.Directions.{nowhere}
use Rattle.vectors.specs.Vec.{direction_of, vadd, vsub, vscale, vdot, vlength, lit, one, f+, f*, f/}
use Rattle.sizes.proofs.Least.{split, Least, NotZero, one_f, one_is, zero_is, value_least, faint, sub_self}
use Rattle.sizes.proofs.Lengths.{zero_dark, faint_length, root_infinite, fits_says, root_range, root_of_zero}

-- ---- a fraction of at most 2 ^ J units rounds to at most 2 ^ J
closest_one : (x : ℕ) → closest x 1 ≡ x
closest_one x = closest_down x 1 (rest x) ∙ div-one x
  where
    rest : (x : ℕ) → x % 1 * 2 < 1
    rest x = omega arith

pub power_above : (p n c J : ℕ) → 0 < p → 0 < c → n ≤ 2 ^ J * c → kept p n c * 2 ^ drop p n c ≤ 2 ^ J
power_above p n c J P C h =
    let k = drop p n c in
    let fewer : k ≤ J = spare (size (n / c)) p J P (size-le (n / c) (suc J) (lt_of_le_of_lt (whole h) (pow-lt (le_refl (suc J))))) in
    let cut : closest n (c * 2 ^ k) ≤ 2 ^ (J - k) =
    le_trans (closest_mono n (c * 2 ^ k) (2 ^ (J - k)) 1 (mul-pos C (pow_pos k)) (pow_pos 0)
    (le_trans (le_of_eq (mul-one n)) (le_trans h (le_of_eq (ap (λ (x : ℕ). x * c) (sym (split J k fewer)) ∙ mul_assoc (2 ^ (J - k)) (2 ^ k) c ∙ ap (λ (x : ℕ). 2 ^ (J - k) * x) (mul_comm (2 ^ k) c))))))
    (le_of_eq (closest_one (2 ^ (J - k)))) in
    le_trans (mul-le-mul_right (2 ^ k) cut) (le_of_eq (split J k fewer))
  where
    spare : (z p J : ℕ) → 0 < p → z ≤ suc J → z - p ≤ J
    spare z p J a b = omega arith

    whole : n ≤ 2 ^ J * c → n / c ≤ 2 ^ J
    whole h = le_of_lt_suc ((div-lt_iff_lt-mul C).1 (lt_of_le_of_lt h (mul-lt-mul_of_pos_right (suc_lt (2 ^ J)) C)))
      where
        le_of_lt_suc : {a b : ℕ} → a < suc b → a ≤ b
        le_of_lt_suc {a} {b} h = omega arith

        suc_lt : (x : ℕ) → x < suc x
        suc_lt x = omega arith

-- ---- x is finite, and 2 ^ j at most in size
abbrev pub Real : ℕ → Float → Type 0
Real j nan = ⊥
Real j (inf s) = ⊥
Real j (fin s m e) = m * up e ≤ 2 ^ j * down e

pub value_real : (f : Format) (j : ℕ) (x : Float) (s : Bool) (a : ℕ) → HasValue x s a (2 ^ low f) → a ≤ 2 ^ (j + low f) → Real j x
value_real f j nan s a v h = absurd v
value_real f j (inf t) s a v h = absurd v
value_real f j (fin t m e) s a v h =
    le_of_mul-le-mul_right (le_trans (le_of_eq v.1) (le_trans (mul-le-mul_right (down e) h) (le_of_eq (ap (λ (x : ℕ). x * down e) (pow-add 2 j (low f)) ∙ mul_right_comm (2 ^ j) (2 ^ low f) (down e))))) (pow_pos (low f))

round_has : (f : Format) (j : ℕ) (s : Bool) (a c : ℕ) → j ≤ emax f → 0 < c → a ≤ 2 ^ j * c → (g : ℕ) × HasValue (round f s a c) s g (2 ^ low f) × (g ≤ 2 ^ (j + low f))
round_has f j s a c J C h =
    let n = a * 2 ^ low f in
    let p = prec f in
    let top : kept p n c * 2 ^ drop p n c ≤ 2 ^ (j + low f) =
    power_above p n c (j + low f) (two-le_pos p (two f)) C
    (le_trans (mul-le-mul_right (2 ^ low f) h) (le_of_eq (mul_right_comm (2 ^ j) c (2 ^ low f) ∙ ap (λ (x : ℕ). x * c) (sym (pow-add 2 j (low f)))))) in
    let fine : kept p n c * 2 ^ drop p n c < 2 ^ (low f + suc (emax f)) = lt_of_le_of_lt top (pow-lt (below j (low f) (emax f) J)) in
    (kept p n c * 2 ^ drop p n c, subst (λ (z : Float). HasValue z s (kept p n c * 2 ^ drop p n c) (2 ^ low f)) (sym (round_is f s a c)) (units_val f s (kept p n c) (drop p n c) fine), top)
  where
    below : (j l m : ℕ) → j ≤ m → j + l < l + suc m
    below j l m h = omega arith

pub round_real : (f : Format) (j : ℕ) (s : Bool) (a c : ℕ) → j ≤ emax f → 0 < c → a ≤ 2 ^ j * c → Real j (round f s a c)
round_real f j s a c J C h = let r = round_has f j s a c J C h in value_real f j (round f s a c) s r.0 r.1 r.2

-- ---- more room
pub real_more : (j k : ℕ) (x : Float) → j ≤ k → Real j x → Real k x
real_more j k nan l h = absurd h
real_more j k (inf s) l h = absurd h
real_more j k (fin s m e) l h = le_trans h (mul-le-mul_right (down e) (pow_mono l))

-- ---- the product
pub mul_real : (f : Format) (i j : ℕ) (x y : Float) → i + j ≤ emax f → Real i x → Real j y → Real (i + j) (mul f x y)
unfolding mul
mul_real f i j nan y J h k = absurd h
mul_real f i j (inf s) y J h k = absurd h
mul_real f i j (fin s m e) nan J h k = absurd k
mul_real f i j (fin s m e) (inf t) J h k = absurd k
mul_real f i j (fin s m e) (fin t n d) J h k =
    round_real f (i + j) (unlike s t) (m * up e * (n * up d)) (down e * down d) J (mul-pos (down_pos e) (down_pos d))
    (le_trans (mul-le-mul h k) (le_of_eq (mul-mul-mul_comm (2 ^ i) (down e) (2 ^ j) (down d) ∙ ap (λ (x : ℕ). x * (down e * down d)) (sym (pow-add 2 i j)))))

-- ---- the sum
sum_real : (f : Format) (j : ℕ) (s : Bool) (a : ℕ) (t : Bool) (b c : ℕ) → suc j ≤ emax f → 0 < c → a ≤ 2 ^ j * c → b ≤ 2 ^ j * c → Real (suc j) (sum f s a t b c)
unfolding sum
sum_real f j s a t b c J C h k = pick (beq s t) (ltb a b) (s && ltb b a)
  where
    twice : (j c : ℕ) → 2 ^ suc j * c ≡ 2 ^ j * c + 2 ^ j * c
    twice j c = ap (λ (x : ℕ). x * c) (two-pow-succ j) ∙ add-mul (2 ^ j) (2 ^ j) c

    both : (a b x y : ℕ) → y ≡ x + x → a ≤ x → b ≤ x → a + b ≤ y
    both a b x y e h k = omega arith

    less : (a b x y : ℕ) → y ≡ x + x → a ≤ x → a - b ≤ y
    less a b x y e h = omega arith

    pick : (u v w : Bool) → Real (suc j) (cond u (round f s (a + b) c) (cond v (round f t (b - a) c) (round f w (a - b) c)))
    pick true v w = round_real f (suc j) s (a + b) c J C (both a b (2 ^ j * c) (2 ^ suc j * c) (twice j c) h k)
    pick false true w = round_real f (suc j) t (b - a) c J C (less b a (2 ^ j * c) (2 ^ suc j * c) (twice j c) k)
    pick false false w = round_real f (suc j) w (a - b) c J C (less a b (2 ^ j * c) (2 ^ suc j * c) (twice j c) h)

pub add_real : (f : Format) (j : ℕ) (x y : Float) → suc j ≤ emax f → Real j x → Real j y → Real (suc j) (add f x y)
unfolding add
add_real f j nan y J h k = absurd h
add_real f j (inf s) y J h k = absurd h
add_real f j (fin s m e) nan J h k = absurd k
add_real f j (fin s m e) (inf t) J h k = absurd k
add_real f j (fin s m e) (fin t n d) J h k =
    sum_real f j s (m * up e * down d) t (n * up d * down e) (down e * down d) J (mul-pos (down_pos e) (down_pos d))
    (le_trans (mul-le-mul_right (down d) h) (le_of_eq (mul_assoc (2 ^ j) (down e) (down d))))
    (le_trans (mul-le-mul_right (down e) k) (le_of_eq (mul_assoc (2 ^ j) (down d) (down e) ∙ ap (λ (x : ℕ). 2 ^ j * x) (mul_comm (down d) (down e)))))

pub neg_real : (j : ℕ) (x : Float) → Real j x → Real j (neg x)
unfolding neg
neg_real j nan h = absurd h
neg_real j (inf s) h = absurd h
neg_real j (fin s m e) h = h

pub sub_real : (f : Format) (j : ℕ) (x y : Float) → suc j ≤ emax f → Real j x → Real j y → Real (suc j) (sub f x y)
unfolding sub
sub_real f j x y J h k = add_real f j x (neg y) J h (neg_real j y k)

-- ---- vectors
abbrev pub Real3 : ℕ → Vec3 → Type 0
Real3 k v = Real k v.x × Real k v.y × Real k v.z

pub vmore : (j k : ℕ) (v : Vec3) → j ≤ k → Real3 j v → Real3 k v
vmore j k v l (a, b, c) = (real_more j k v.x l a, real_more j k v.y l b, real_more j k v.z l c)

pub vadd_real : (j : ℕ) (v w : Vec3) → suc j ≤ 127 → Real3 j v → Real3 j w → Real3 (suc j) (vadd v w)
unfolding vadd
vadd_real j v w J (a, b, c) (d, e, f) = (add_real binary32 j v.x w.x J a d, add_real binary32 j v.y w.y J b e, add_real binary32 j v.z w.z J c f)

pub vsub_real : (j : ℕ) (v w : Vec3) → suc j ≤ 127 → Real3 j v → Real3 j w → Real3 (suc j) (vsub v w)
unfolding vsub
vsub_real j v w J (a, b, c) (d, e, f) = (sub_real binary32 j v.x w.x J a d, sub_real binary32 j v.y w.y J b e, sub_real binary32 j v.z w.z J c f)

pub vscale_real : (i j : ℕ) (v : Vec3) (k : Float) → i + j ≤ 127 → Real3 i v → Real j k → Real3 (i + j) (vscale v k)
unfolding vscale
vscale_real i j v k J (a, b, c) h = (mul_real binary32 i j v.x k J a h, mul_real binary32 i j v.y k J b h, mul_real binary32 i j v.z k J c h)

-- ---- THE length: components of at most 2 ^ 62 have one that is not infinite
pub length_finite : (a : Vec3) → Real3 62 a → vlength a ≡ inf false → ⊥
unfolding vlength vdot
length_finite a (p, q, r) =
    root_infinite (f+ (f+ (f* a.x a.x) (f* a.y a.y)) (f* a.z a.z)) (add-fits binary32 (f+ (f* a.x a.x) (f* a.y a.y)) (f* a.z a.z))
    (no_infinity 126 (f+ (f+ (f* a.x a.x) (f* a.y a.y)) (f* a.z a.z))
    (add_real binary32 125 (f+ (f* a.x a.x) (f* a.y a.y)) (f* a.z a.z) (lit≤ tt)
    (add_real binary32 124 (f* a.x a.x) (f* a.y a.y) (lit≤ tt) (mul_real binary32 62 62 a.x a.x (lit≤ tt) p p) (mul_real binary32 62 62 a.y a.y (lit≤ tt) q q))
    (real_more 124 125 (f* a.z a.z) (lit≤ tt) (mul_real binary32 62 62 a.z a.z (lit≤ tt) r r))))
  where
    no_infinity : (k : ℕ) (x : Float) → Real k x → x ≡ inf false → ⊥
    no_infinity k x h e = subst (λ (z : Float). Real k z) e h

-- ---- a sum of squares has no sign
abbrev Plus : ℕ → Float → Type 0
Plus k nan = ⊥
Plus k (inf s) = ⊥
Plus k (fin true m e) = ⊥
Plus k (fin false m e) = m * up e ≤ 2 ^ k * down e

value_plus : (f : Format) (j : ℕ) (x : Float) (a : ℕ) → HasValue x false a (2 ^ low f) → a ≤ 2 ^ (j + low f) → Plus j x
value_plus f j nan a v h = absurd v
value_plus f j (inf t) a v h = absurd v
value_plus f j (fin true m e) a v h = absurd (true≢false v.0)
value_plus f j (fin false m e) a v h = value_real f j (fin false m e) false a v h

round_plus : (f : Format) (j a c : ℕ) → j ≤ emax f → 0 < c → a ≤ 2 ^ j * c → Plus j (round f false a c)
round_plus f j a c J C h = let r = round_has f j false a c J C h in value_plus f j (round f false a c) r.0 r.1 r.2

square_plus : (k : ℕ) (x : Float) → k + k ≤ 127 → Real k x → Plus (k + k) (mul binary32 x x)
unfolding mul
square_plus k nan K h = absurd h
square_plus k (inf s) K h = absurd h
square_plus k (fin s m e) K h =
    subst (λ (b : Bool). Plus (k + k) (round binary32 b (m * up e * (m * up e)) (down e * down e))) (sym (same s))
    (round_plus binary32 (k + k) (m * up e * (m * up e)) (down e * down e) K (mul-pos (down_pos e) (down_pos e))
    (le_trans (mul-le-mul h h) (le_of_eq (mul-mul-mul_comm (2 ^ k) (down e) (2 ^ k) (down e) ∙ ap (λ (x : ℕ). x * (down e * down e)) (sym (pow-add 2 k k))))))
  where
    same : (s : Bool) → unlike s s ≡ false
    same true = refl
    same false = refl

plus_more : (j k : ℕ) (x : Float) → j ≤ k → Plus j x → Plus k x
plus_more j k nan l h = absurd h
plus_more j k (inf s) l h = absurd h
plus_more j k (fin true m e) l h = absurd h
plus_more j k (fin false m e) l h = real_more j k (fin false m e) l h

add_plus : (j : ℕ) (x y : Float) → suc j ≤ 127 → Plus j x → Plus j y → Plus (suc j) (add binary32 x y)
unfolding add sum
add_plus j nan y J h k = absurd h
add_plus j (inf s) y J h k = absurd h
add_plus j (fin true m e) y J h k = absurd h
add_plus j (fin false m e) nan J h k = absurd k
add_plus j (fin false m e) (inf t) J h k = absurd k
add_plus j (fin false m e) (fin true n d) J h k = absurd k
add_plus j (fin false m e) (fin false n d) J h k =
    round_plus binary32 (suc j) (m * up e * down d + n * up d * down e) (down e * down d) J (mul-pos (down_pos e) (down_pos d))
    (both (m * up e * down d) (n * up d * down e) (2 ^ j * (down e * down d)) (2 ^ suc j * (down e * down d)) (ap (λ (x : ℕ). x * (down e * down d)) (two-pow-succ j) ∙ add-mul (2 ^ j) (2 ^ j) (down e * down d))
    (le_trans (mul-le-mul_right (down d) h) (le_of_eq (mul_assoc (2 ^ j) (down e) (down d))))
    (le_trans (mul-le-mul_right (down e) k) (le_of_eq (mul_assoc (2 ^ j) (down d) (down e) ∙ ap (λ (x : ℕ). 2 ^ j * x) (mul_comm (down d) (down e))))))
  where
    both : (a b x y : ℕ) → y ≡ x + x → a ≤ x → b ≤ x → a + b ≤ y
    both a b x y e h k = omega arith

-- ---- its root, where it is not 0: finite, and 2 ^ -75 at least
zero_is_zero : (s : Bool) (e : ℤ) → NotZero (fin s 0 e) → ⊥
unfolding eq
zero_is_zero s e h =
    subst T h
    (and_i (eqb (0 * up e * 1) (0 * 1 * down e)) (beq s false || eqb (0 * up e * 1) 0) (eq→eqb (nothing (up e) (down e))) (or_r (beq s false) (eqb (0 * up e * 1) 0) (eq→eqb (none (up e)))))
  where
    nothing : (a b : ℕ) → 0 * a * 1 ≡ 0 * 1 * b
    nothing a b = omega arith

    none : (a : ℕ) → 0 * a * 1 ≡ 0
    none a = omega arith

    or_r : (a b : Bool) → T b → T (a || b)
    or_r true b t = tt
    or_r false b t = t

root_sized : (x : Float) → Plus 126 x → T (fits binary32 x) → NotZero (root binary32 x) → Real 65 (root binary32 x) × Least 75 (root binary32 x)
root_sized nan h t l = absurd h
root_sized (inf s) h t l = absurd h
root_sized (fin true m e) h t l = absurd h
root_sized (fin false zero e) h t l = absurd (zero_is_zero false e (subst NotZero (root_of_zero e) l))
root_sized (fin false (suc m) e) h t l =
    let r = root_range m e (fits_says m e t) in
    (value_real binary32 65 (root binary32 (fin false (suc m) e)) false r.0 r.1 r.2, value_least binary32 75 (root binary32 (fin false (suc m) e)) false r.0 (lit≤ tt) r.1 r.3)

over_real : (x : Float) → Real 65 x → Least 75 x → Real 75 (div binary32 one_f x)
unfolding div
over_real nan h l = absurd h
over_real (inf s) h l = absurd h
over_real (fin t n d) h l = go (eqb n 0) (eqb→eq n 0)
  where
    some : 0 < n * up d
    some = first_pos (n * up d) (2 ^ 75) (lt_of_lt_of_le (down_pos d) l)

    go : (b : Bool) → (T b → n ≡ 0) → Real 75 (cond b (cond (eqb 1 0) nan (inf (unlike false t))) (round binary32 (unlike false t) (1 * 1 * down d) (n * up d * 1)))
    go true z = absurd (lt_irrefl 0 (subst (λ (k : ℕ). 0 < k) (ap (λ (k : ℕ). k * up d) (z tt) ∙ zero-mul (up d)) some))
    go false z =
        round_real binary32 75 (unlike false t) (1 * 1 * down d) (n * up d * 1) (lit≤ tt) (mul-pos some (pow_pos 0))
        (le_trans (le_of_eq (one-mul (down d))) (le_trans l (le_of_eq (mul_comm (n * up d) (2 ^ 75) ∙ ap (λ (x : ℕ). 2 ^ 75 * x) (sym (mul-one (n * up d)))))))

-- ---- THE direction of a vector of finite components is one
pub scaled_real : (a : Vec3) → Real3 52 a → eq (vlength a) (lit 0) ≡ false → Real3 127 (vscale a (f/ one (vlength a)))
unfolding vlength vdot
scaled_real a (p, q, r) h =
    let s = f+ (f+ (f* a.x a.x) (f* a.y a.y)) (f* a.z a.z) in
    let plus : Plus 106 s =
    add_plus 105 (f+ (f* a.x a.x) (f* a.y a.y)) (f* a.z a.z) (lit≤ tt)
    (add_plus 104 (f* a.x a.x) (f* a.y a.y) (lit≤ tt) (square_plus 52 a.x (lit≤ tt) p) (square_plus 52 a.y (lit≤ tt) q))
    (plus_more 104 105 (f* a.z a.z) (lit≤ tt) (square_plus 52 a.z (lit≤ tt) r)) in
    let z = root_sized s (plus_more 106 126 s (lit≤ tt) plus) (add-fits binary32 (f+ (f* a.x a.x) (f* a.y a.y)) (f* a.z a.z)) (subst (λ (u : Float). eq (root binary32 s) u ≡ false) zero_is h) in
    vscale_real 52 75 a (f/ one (root binary32 s)) (lit≤ tt) (p, q, r) (subst (λ (u : Float). Real 75 (f/ u (root binary32 s))) (sym one_is) (over_real (root binary32 s) z.0 z.1))

-- ---- a vector of finite components less itself points nowhere
pub self_nowhere : (k : ℕ) (v : Vec3) → Real3 k v → direction_of (vsub v v) ≡ None
unfolding vsub
self_nowhere k v (a, b, c) = (nowhere (vsub v v)).1 (ap (λ (l : Float). eq l (lit 0)) (faint_length (vsub v v) (gone v.x a) (gone v.y b) (gone v.z c)) ∙ zero_dark)
  where
    gone : (x : Float) → Real k x → faint (sub binary32 x x) ≡ true
    gone nan h = absurd h
    gone (inf s) h = absurd h
    gone (fin s m e) h = ap faint (sub_self s m e)
