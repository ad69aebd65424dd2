-- The nearest of a format's values, whatever it is nearest to: what NearestRoot and NearestNarrow share. Numbers count
-- smallest values of the format f. A value of f is m * 2 ^ j of them with m below 2 ^ prec; no upper end is asked, as what
-- lies past it is an infinity. `picked`: what `nearest` takes is the nearest. `only`: nothing else is. Assumes nothing.
use mathlib.Core.Path.{◌≡◌, refl, sym, ap, ◌∙◌, subst}
use mathlib.Core.Logic.{◌⊎◌, inl, inr}
use Prim.Native.Nat.{ℕ, zero, suc, ◌+◌, ◌-◌, ◌*◌, ◌/◌, ◌%◌, ◌^◌, ◌≤◌, ◌<◌, compare, Ordering}
use native.Mathlib.Nat.{lt_of_le_of_lt, lt-suc_self, add_comm, mul_right_comm, mul-le-mul_left, mul-lt-mul_of_pos_right, eq_of_mul-eq-mul_right, le_refl, le-suc, le_trans, le_of_eq, le_of_lt, le_of_suc-le-suc, le_antisymm, lt_of_lt_of_le, lt_of_not-le, not-le_of_lt, lt_irrefl, eq-or-lt_of_le, mul_comm, mul_assoc, mul-le-mul, mul-le-mul_right, lt_of_mul-lt-mul_right, le-div_iff_mul-le, pow-suc, pow-succ', add-mul, add-zero, mul-mod_left}
use native.Mathlib.Numerals.{add-one}
use native.Mathlib.Omega.{arith}
use mathlib.Core.Bool.{Bool, true, false, not}
use lib.Dec.{T, ltb, ltb→lt, nltb→le}
use lib.Pow.{pow-add, pow_pos, pow_mono, pow-lt}
use lib.Ieee.{Format, prec, size, nearest, hid}
use lib.Ieee.Digits.{size_reaches}
use lib.Ieee.Fits.{two}
use Rattle.floats.specs.Nearest.{Held}
use Rattle.floats.proofs.Grid.{twice_hid}
use Rattle.floats.proofs.Closest.{Cmp, cmp}

-- r is the value nearest to t, a tie to the even one, where t is told by a g that grows: at 2 t it is n. Half-way from r
-- to another value y stands (r + y) / 2
pub record NearestBy (f : Format) (g : ℕ → ℕ) (n r : ℕ) : Type 0 where
  pub held : Held f r
  pub below : (m j : ℕ) → m < 2 ^ prec f → m * 2 ^ j < r → g (r + m * 2 ^ j) ≤ n
  pub above : (m j : ℕ) → m < 2 ^ prec f → r < m * 2 ^ j → n ≤ g (r + m * 2 ^ j)
  pub tie : (m j : ℕ) → m < 2 ^ prec f → (m * 2 ^ j ≡ r → ⊥) → g (r + m * 2 ^ j) ≡ n → held.digits % 2 ≡ 0

-- ---- the leading digits of w, as f keeps them
pub leading : (f : Format) (w : ℕ) → (size w - prec f ≡ 0) ⊎ (hid f ≤ w / 2 ^ (size w - prec f))
leading f w = go (ltb (prec f) (size w)) (ltb→lt (prec f) (size w)) (nltb→le (prec f) (size w))
  where
    k : ℕ
    k = size w - prec f

    none : (p z : ℕ) → z ≤ p → z - p ≡ 0
    none p z h = omega arith

    all : (p z : ℕ) → 2 ≤ p → p < z → p - 1 + (z - p) < z
    all p z a b = omega arith

    go : (b : Bool) → (T b → prec f < size w) → (T (not b) → size w ≤ prec f) → (k ≡ 0) ⊎ (hid f ≤ w / 2 ^ k)
    go true a b =
        inr ((le-div_iff_mul-le (pow_pos k)).1
        (le_trans (le_of_eq (sym (pow-add 2 (prec f - 1) k)))
        (size_reaches w (prec f - 1 + k) (all (prec f) (size w) (two f) (a tt)))))
    go false a b = inl (none (prec f) (size w) (b tt))

-- one digit more is the next power
wider : (f : Format) (j : ℕ) → 2 ^ prec f * 2 ^ j ≡ hid f * 2 ^ suc j
wider f j =
    ap (λ (x : ℕ). x * 2 ^ j) (twice_hid f ∙ mul_comm 2 (hid f))
    ∙ mul_assoc (hid f) 2 (2 ^ j) ∙ ap (λ (x : ℕ). hid f * x) (sym (pow-succ' 2 j))

hid_even : (f : Format) → hid f % 2 ≡ 0
hid_even f =
    ap (λ (x : ℕ). 2 ^ x % 2) (again (prec f) (two f))
    ∙ ap (λ (x : ℕ). x % 2) (pow-suc 2 (prec f - 2)) ∙ mul-mod_left (2 ^ (prec f - 2)) 2
  where
    again : (p : ℕ) → 2 ≤ p → p - 1 ≡ suc (p - 2)
    again p h = omega arith

-- at a lower power the digits are a multiple
higher : (m j k : ℕ) → k ≤ j → m * 2 ^ j ≡ m * 2 ^ (j - k) * 2 ^ k
higher m j k h =
    ap (λ (x : ℕ). m * x) (ap (λ (x : ℕ). 2 ^ x) (sym (join j k h)) ∙ pow-add 2 (j - k) k)
    ∙ sym (mul_assoc m (2 ^ (j - k)) (2 ^ k))
  where
    join : (j k : ℕ) → k ≤ j → j - k + k ≡ j
    join j k h = omega arith

-- no value of f lies between two neighbours v * 2 ^ k and (v + 1) * 2 ^ k, for a v of all prec digits or a k of 0
gap : (f : Format) (v k m j : ℕ) → (k ≡ 0) ⊎ (hid f ≤ v) → m < 2 ^ prec f
    → v * 2 ^ k < m * 2 ^ j → suc v * 2 ^ k ≤ m * 2 ^ j
gap f v k m j (inl z) M =
    subst (λ (x : ℕ). v * 2 ^ x < m * 2 ^ j → suc v * 2 ^ x ≤ m * 2 ^ j) (sym z) (whole v (m * 2 ^ j))
  where
    whole : (v y : ℕ) → v * 1 < y → suc v * 1 ≤ y
    whole v y h = omega arith
gap f v k m j (inr lo) M = λ (h : v * 2 ^ k < m * 2 ^ j). go (ltb j k) (ltb→lt j k) (nltb→le j k) h
  where
    go : (b : Bool) → (T b → j < k) → (T (not b) → k ≤ j) → v * 2 ^ k < m * 2 ^ j → suc v * 2 ^ k ≤ m * 2 ^ j
    go true p q h =
        absurd (not-le_of_lt h
        (le_trans (mul-le-mul_right (2 ^ j) (le_of_lt M))
        (le_trans (le_of_eq (wider f j)) (mul-le-mul lo (pow_mono (p tt))))))
    go false p q h =
        let c = 2 ^ k in
        let d = 2 ^ (j - k) in
        let e : m * 2 ^ j ≡ m * d * c = higher m j k (q tt) in
        subst (λ (x : ℕ). suc v * c ≤ x) (sym e)
        (mul-le-mul_right c (lt_of_mul-lt-mul_right c (subst (λ (x : ℕ). v * c < x) e h)))

-- by where y lies from r
apart : (r y : ℕ) → (y ≡ r → ⊥) → (y < r) ⊎ (r < y)
apart r y d = go (compare y r) (cmp y r)
  where
    go : (o : Ordering) → Cmp o y r → (y < r) ⊎ (r < y)
    go Ordering.lt c = inl c
    go Ordering.eq c = absurd (d c)
    go Ordering.gt c = inr c

add_le : (r x y : ℕ) → x ≤ y → r + x ≤ r + y
add_le r x y l = omega arith

add_lt : (r x y : ℕ) → x < y → r + x < r + y
add_lt r x y l = omega arith

flipped : (x y z : ℕ) → y ≤ z → x + y ≤ z + x
flipped x y z l = omega arith

-- ---- of two neighbours v * 2 ^ k and (v + 1) * 2 ^ k around t, the one that `nearest` takes by the half-way point
module _ (f : Format) (g : ℕ → ℕ) (grows : (x y : ℕ) → x < y → g x < g y) (n v k : ℕ)
    (most : v < 2 ^ prec f) (lead : (k ≡ 0) ⊎ (hid f ≤ v))
    (a : g (v * 2 ^ k + v * 2 ^ k) ≤ n) (b : n < g (suc v * 2 ^ k + suc v * 2 ^ k)) where
  half : ℕ
  half = (2 * v + 1) * 2 ^ k

  mid : v * 2 ^ k + suc v * 2 ^ k ≡ half
  unfolding half
  mid = sym (add-mul v (suc v) (2 ^ k)) ∙ ap (λ (x : ℕ). x * 2 ^ k) (tidy v)
    where
      tidy : (v : ℕ) → v + suc v ≡ 2 * v + 1
      tidy v = omega arith

  no_less : (x y : ℕ) → x ≤ y → g x ≤ g y
  no_less x y l = elim (eq-or-lt_of_le l) [ inl e ↦ le_of_eq (ap g e) | inr h ↦ le_of_lt (grows x y h) ]

  -- a value above the lower neighbour is past the half-way point, one below the upper neighbour short of it
  past : (m j : ℕ) → m < 2 ^ prec f → v * 2 ^ k < m * 2 ^ j → g half ≤ g (v * 2 ^ k + m * 2 ^ j)
  past m j M l =
      no_less half (v * 2 ^ k + m * 2 ^ j)
      (le_trans (le_of_eq (sym mid)) (add_le (v * 2 ^ k) (suc v * 2 ^ k) (m * 2 ^ j) (gap f v k m j lead M l)))

  short : (m j : ℕ) → m < 2 ^ prec f → m * 2 ^ j < suc v * 2 ^ k → g (suc v * 2 ^ k + m * 2 ^ j) ≤ g half
  short m j M l =
      let under : m * 2 ^ j ≤ v * 2 ^ k =
      le_of_suc-le-suc (lt_of_not-le (λ (h : suc (v * 2 ^ k) ≤ m * 2 ^ j). not-le_of_lt l (gap f v k m j lead M h))) in
      no_less (suc v * 2 ^ k + m * 2 ^ j) half
      (le_trans (flipped (suc v * 2 ^ k) (m * 2 ^ j) (v * 2 ^ k) under) (le_of_eq mid))

  keeps : n ≤ g half → (g half ≡ n → v % 2 ≡ 0) → NearestBy f g n (v * 2 ^ k)
  keeps h even = record {
    held = record { digits = v; power = k; is = refl; most = most; lead = lead };
    below = λ m j M l. le_of_lt (under m j l);
    above = λ m j M l. le_trans h (past m j M l);
    tie = λ m j M d e. equal m j M e (apart r (m * 2 ^ j) d);
  }
    where
      r : ℕ
      r = v * 2 ^ k

      under : (m j : ℕ) → m * 2 ^ j < r → g (r + m * 2 ^ j) < n
      under m j l = lt_of_lt_of_le (grows (r + m * 2 ^ j) (r + r) (add_lt r (m * 2 ^ j) r l)) a

      equal : (m j : ℕ) → m < 2 ^ prec f → g (r + m * 2 ^ j) ≡ n → (m * 2 ^ j < r) ⊎ (r < m * 2 ^ j) → v % 2 ≡ 0
      equal m j M e (inl l) = absurd (lt_irrefl n (subst (λ (x : ℕ). x < n) e (under m j l)))
      equal m j M e (inr l) = even (le_antisymm (le_trans (past m j M l) (le_of_eq e)) h)

  -- (v + 1) * 2 ^ k in f's digits: where v + 1 has one too many, it is the next power of two
  moves : g half ≤ n → (H : Held f (suc v * 2 ^ k)) → (g half ≡ n → H.digits % 2 ≡ 0) → NearestBy f g n (suc v * 2 ^ k)
  moves h H even = record {
    held = H;
    below = λ m j M l. le_trans (short m j M l) h;
    above = λ m j M l. le_of_lt (over m j l);
    tie = λ m j M d e. equal m j M e (apart r (m * 2 ^ j) d);
  }
    where
      r : ℕ
      r = suc v * 2 ^ k

      over : (m j : ℕ) → r < m * 2 ^ j → n < g (r + m * 2 ^ j)
      over m j l = lt_of_lt_of_le b (le_of_lt (grows (r + r) (r + m * 2 ^ j) (add_lt r r (m * 2 ^ j) l)))

      equal : (m j : ℕ) → m < 2 ^ prec f → g (r + m * 2 ^ j) ≡ n → (m * 2 ^ j < r) ⊎ (r < m * 2 ^ j) → H.digits % 2 ≡ 0
      equal m j M e (inl l) = even (le_antisymm h (le_trans (le_of_eq (sym e)) (short m j M l)))
      equal m j M e (inr l) = absurd (lt_irrefl n (subst (λ (x : ℕ). n < x) e (over m j l)))

  next : g half ≤ n → (g half ≡ n → suc v % 2 ≡ 0) → NearestBy f g n (suc v * 2 ^ k)
  next h even = go (eq-or-lt_of_le most)
    where
      up : (k ≡ 0) ⊎ (hid f ≤ v) → (k ≡ 0) ⊎ (hid f ≤ suc v)
      up (inl z) = inl z
      up (inr l) = inr (le_trans l (le-suc v))

      go : (suc v ≡ 2 ^ prec f) ⊎ (suc v < 2 ^ prec f) → NearestBy f g n (suc v * 2 ^ k)
      go (inl e) =
          let is : suc v * 2 ^ k ≡ hid f * 2 ^ suc k = ap (λ (x : ℕ). x * 2 ^ k) e ∙ wider f k in
          let most : hid f < 2 ^ prec f = pow-lt (less (prec f) (two f)) in
          moves h (record { digits = hid f; power = suc k; is = is; most = most; lead = inr (le_refl (hid f)) })
          (λ (_ : g half ≡ n). hid_even f)
        where
          less : (p : ℕ) → 2 ≤ p → p - 1 < p
          less p h = omega arith
      go (inr l) = moves h (record { digits = suc v; power = k; is = refl; most = l; lead = up lead }) even

  -- by how n compares with g at the half-way point; at a tie either is as near, and the even one is taken
  pub picked : (o : Ordering) → Cmp o n (g ((2 * v + 1) * 2 ^ k)) → NearestBy f g n (nearest v o * 2 ^ k)
  unfolding half
  picked Ordering.lt c = keeps (le_of_lt c) (λ (e : g half ≡ n). absurd (lt_irrefl n (lt_of_lt_of_le c (le_of_eq e))))
  picked Ordering.eq c = go (v % 2) refl
    where
      odd_next : (v t : ℕ) → v % 2 ≡ suc t → suc v % 2 ≡ 0
      odd_next v t h = omega arith

      one_only : (v t : ℕ) → v % 2 ≡ suc (suc t) → ⊥
      one_only v t h = omega arith

      go : (t : ℕ) → v % 2 ≡ t → NearestBy f g n ((v + t) * 2 ^ k)
      go zero h =
          subst (λ (x : ℕ). NearestBy f g n (x * 2 ^ k)) (sym (add-zero v)) (keeps (le_of_eq c) (λ (_ : g half ≡ n). h))
      go (suc zero) h =
          subst (λ (x : ℕ). NearestBy f g n (x * 2 ^ k)) (sym (add-one v))
          (next (le_of_eq (sym c)) (λ (_ : g half ≡ n). odd_next v zero h))
      go (suc (suc t)) h = absurd (one_only v t h)
  picked Ordering.gt c = next (le_of_lt c) (λ (e : g half ≡ n). absurd (lt_irrefl n (subst (λ (x : ℕ). x < n) e c)))

-- ---- there is one nearest

-- the value behind one whose digits are even is none whose digits are even
odd_next : (f : Format) (d p e q : ℕ) → (p ≡ 0) ⊎ (hid f ≤ d) → e < 2 ^ prec f → d % 2 ≡ 0 → e % 2 ≡ 0
    → suc d * 2 ^ p ≡ e * 2 ^ q → ⊥
odd_next f d p e q lead most D E h = go (ltb q p) (ltb→lt q p) (nltb→le q p)
  where
    even : (e x : ℕ) → e % 2 ≡ 0 → e * x % 2 ≡ 0
    even e x h =
        ap (λ (y : ℕ). y * x % 2) (halves e h)
        ∙ ap (λ (y : ℕ). y % 2) (mul_right_comm (e / 2) 2 x) ∙ mul-mod_left (e / 2 * x) 2
      where
        halves : (e : ℕ) → e % 2 ≡ 0 → e ≡ e / 2 * 2
        halves e h = omega arith

    clash : (d y : ℕ) → suc d ≡ y → d % 2 ≡ 0 → y % 2 ≡ 0 → ⊥
    clash d y e a b = omega arith

    far : (p q : ℕ) → q < p → 1 ≤ p - q
    far p q h = omega arith

    full : (p ≡ 0) ⊎ (hid f ≤ d) → q < p → hid f ≤ d
    full (inl z) l = absurd (none p q z l)
      where
        none : (p q : ℕ) → p ≡ 0 → q < p → ⊥
        none p q z l = omega arith
    full (inr g) l = g

    large : (h d e x : ℕ) → x ≡ 2 * h → h ≤ d → suc d * 2 ≤ e → e < x → ⊥
    large h d e x a b c l = omega arith

    go : (b : Bool) → (T b → q < p) → (T (not b) → p ≤ q) → ⊥
    go true a b =
        let i : suc d * 2 ^ (p - q) ≡ e =
        eq_of_mul-eq-mul_right (2 ^ q) (pow_pos q) (suc d * 2 ^ (p - q)) e
        (sym (higher (suc d) p q (le_of_lt (a tt))) ∙ h) in
        large (hid f) d e (2 ^ prec f) (twice_hid f) (full lead (a tt))
        (le_trans (mul-le-mul_left (suc d) (pow_mono (far p q (a tt)))) (le_of_eq i)) most
    go false a b =
        let i : suc d ≡ e * 2 ^ (q - p) =
        eq_of_mul-eq-mul_right (2 ^ p) (pow_pos p) (suc d) (e * 2 ^ (q - p)) (h ∙ higher e q p (b tt)) in
        clash d (e * 2 ^ (q - p)) i D (even e (2 ^ (q - p)) E)

module _ (f : Format) (g : ℕ → ℕ) (grows : (x y : ℕ) → x < y → g x < g y) (n : ℕ) where
  no_two : (r s : ℕ) → NearestBy f g n r → NearestBy f g n s → r < s → ⊥
  no_two r s R S l = go (eq-or-lt_of_le (subst (λ (x : ℕ). suc d * 2 ^ p ≤ x) (sym J) reach))
    where
      d : ℕ
      d = R.held.digits

      p : ℕ
      p = R.held.power

      e : ℕ
      e = S.held.digits

      q : ℕ
      q = S.held.power

      I : r ≡ d * 2 ^ p
      I = R.held.is

      J : s ≡ e * 2 ^ q
      J = S.held.is

      M : d < 2 ^ prec f
      M = R.held.most

      N : e < 2 ^ prec f
      N = S.held.most

      -- half-way between them stands t
      sums : g (r + s) ≡ n
      sums =
          le_antisymm
          (subst (λ (x : ℕ). g x ≤ n) (add_comm s r) (subst (λ (x : ℕ). x < s → g (s + x) ≤ n) (sym I) (S.below d p M) l))
          (subst (λ (x : ℕ). r < x → n ≤ g (r + x)) (sym J) (R.above e q N) l)

      even : d % 2 ≡ 0
      even =
          subst (λ (x : ℕ). (x ≡ r → ⊥) → g (r + x) ≡ n → d % 2 ≡ 0) (sym J) (R.tie e q N)
          (λ (i : s ≡ r). lt_irrefl s (subst (λ (x : ℕ). x < s) (sym i) l)) sums

      even' : e % 2 ≡ 0
      even' =
          subst (λ (x : ℕ). (x ≡ s → ⊥) → g (s + x) ≡ n → e % 2 ≡ 0) (sym I) (S.tie d p M)
          (λ (i : r ≡ s). lt_irrefl s (subst (λ (x : ℕ). x < s) i l)) (ap g (add_comm s r) ∙ sums)

      reach : suc d * 2 ^ p ≤ e * 2 ^ q
      reach = gap f d p e q R.held.lead N (subst (λ (x : ℕ). x < e * 2 ^ q) I (subst (λ (x : ℕ). r < x) J l))

      room : suc d < 2 ^ prec f
      room = fits d (hid f) (2 ^ prec f) (twice_hid f) M even
        where
          fits : (d h x : ℕ) → x ≡ 2 * h → d < x → d % 2 ≡ 0 → suc d < x
          fits d h x a b c = omega arith

      go : (suc d * 2 ^ p ≡ s) ⊎ (suc d * 2 ^ p < s) → ⊥
      go (inl i) = odd_next f d p e q R.held.lead N even even' (i ∙ J)
      go (inr m) =
          let y = suc d * 2 ^ p in
          let past : r < y = subst (λ (x : ℕ). x < y) (sym I) (mul-lt-mul_of_pos_right (lt-suc_self d) (pow_pos p)) in
          let near : g (r + y) < n = subst (λ (x : ℕ). g (r + y) < x) sums (grows (r + y) (r + s) (add_lt r y s m)) in
          lt_irrefl n (lt_of_le_of_lt (R.above (suc d) p room past) near)

  -- any two are equal. Of two that are not, t is half-way, so both have even digits; and a third lies between them
  pub only : (r s : ℕ) → NearestBy f g n r → NearestBy f g n s → r ≡ s
  only r s R S = go (compare r s) (cmp r s)
    where
      go : (o : Ordering) → Cmp o r s → r ≡ s
      go Ordering.lt c = absurd (no_two r s R S c)
      go Ordering.eq c = c
      go Ordering.gt c = absurd (no_two s r S R c)
