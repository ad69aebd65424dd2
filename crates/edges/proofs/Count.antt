-- Counts of edges. Assumes nothing.
use mathlib.Core.Path.{◌≡◌, refl, ap, ◌∙◌}
use mathlib.Core.Logic.{◌⊎◌, inl, inr, ⊎_elim}
use mathlib.Core.List.{List, [], ◌∷◌, ◌++◌}
use mathlib.Core.Bool.{Bool, true, false, ◌&&◌, cond}
use Prim.Native.Nat.{ℕ, zero, suc, ◌+◌, ◌*◌, ◌-◌, ◌≤◌, ◌<◌}
use native.Mathlib.Nat.{eq-zero-or-pos, le_of_sub-eq-zero, sub-pos_iff_lt, eq-or-lt_of_le, mod-eq_of_lt, mod_self}
use native.Mathlib.Omega.{arith}
use lib.Dec.{T, eqb, eqb→eq, eqb_refl}
use lib.ListN.{length}
use Rattle.lists.specs.Put.{upto}
use Rattle.lists.proofs.Puts.{length_upto}
use Rattle.edges.specs.Sound.{is, occurs}
use Rattle.edges.specs.Tube.{next}

-- ---- two numbers

pub lt_or_le : (m n : ℕ) → (m < n) ⊎ (n ≤ m)
lt_or_le m n = ⊎_elim (λ e. inr (le_of_sub-eq-zero e)) (λ h. inl (sub-pos_iff_lt.0 h)) (eq-zero-or-pos (n - m))

-- ---- one edge against another

abbrev one : Bool → ℕ
one b = cond b 1 0

is_le : (p q : Bool) → one (p && q) ≤ 1
is_le true true = omega arith
is_le true false = omega arith
is_le false true = omega arith
is_le false false = omega arith

is_turn : (p q : Bool) → one (p && q) ≡ one (q && p)
is_turn true true = refl
is_turn true false = refl
is_turn false true = refl
is_turn false false = refl

is_one : (p q : Bool) → T p → T q → one (p && q) ≡ 1
is_one true true s t = refl
is_one true false s t = absurd t
is_one false q s t = absurd s

is_pos : (p q : Bool) → 0 < one (p && q) → T p × T q
is_pos true true h = (tt, tt)
is_pos true false h = absurd (omega arith)
is_pos false true h = absurd (omega arith)
is_pos false false h = absurd (omega arith)

-- an edge against another, both reversed
pub is_flip : (x y a b : ℕ) → is x y (a, b) ≡ is y x (b, a)
is_flip x y a b = is_turn (eqb x a) (eqb y b)

pub is_same : (x y : ℕ) → is x y (x, y) ≡ 1
is_same x y = is_one (eqb x x) (eqb y y) (eqb_refl x) (eqb_refl y)

-- an edge is the other, or it is not
pub is_or : (x y a b : ℕ) → (is x y (a, b) ≡ 0) ⊎ ((is x y (a, b) ≡ 1) × (x ≡ a) × (y ≡ b))
is_or x y a b = go (eq-zero-or-pos (is x y (a, b)))
  where
    go : (is x y (a, b) ≡ 0) ⊎ (0 < is x y (a, b)) → (is x y (a, b) ≡ 0) ⊎ ((is x y (a, b) ≡ 1) × (x ≡ a) × (y ≡ b))
    go (inl e) = inl e
    go (inr h) =
        let t = is_pos (eqb x a) (eqb y b) h in
        inr (omega (arith, is_le (eqb x a) (eqb y b)), eqb→eq x a t.0, eqb→eq y b t.1)

-- ---- sums

unfoldable pub sum : (ℕ → ℕ) → ℕ → ℕ
sum h zero = 0
sum h (suc n) = sum h n + h n

pub sum_cong : (g h : ℕ → ℕ) (n : ℕ) → ((k : ℕ) → k < n → g k ≡ h k) → sum g n ≡ sum h n
unfolding sum
sum_cong g h zero e = refl
sum_cong g h (suc n) e = omega (arith, sum_cong g h n (λ k l. e k (omega arith)), e n (omega arith))

pub sum_add : (f g h : ℕ → ℕ) (n : ℕ) → ((k : ℕ) → f k ≡ g k + h k) → sum f n ≡ sum g n + sum h n
unfolding sum
sum_add f g h zero e = refl
sum_add f g h (suc n) e = omega (arith, sum_add f g h n e, e n)

pub sum_add₃ : (f g h i : ℕ → ℕ) (n : ℕ) → ((k : ℕ) → f k ≡ g k + h k + i k) → sum f n ≡ sum g n + sum h n + sum i n
unfolding sum
sum_add₃ f g h i zero e = refl
sum_add₃ f g h i (suc n) e = omega (arith, sum_add₃ f g h i n e, e n)

sum_front : (h : ℕ → ℕ) (n : ℕ) → sum (λ k. h (suc k)) n + h 0 ≡ sum h (suc n)
unfolding sum
sum_front h zero = refl
sum_front h (suc n) = omega (arith, sum_front h n)

-- ---- the next side of a ring

pub next_cases : (p k : ℕ) → k < p → ((k + 1 < p) × (next p k ≡ k + 1)) ⊎ ((k + 1 ≡ p) × (next p k ≡ 0))
unfolding next
next_cases p k h = go (eq-or-lt_of_le h)
  where
    go : (suc k ≡ p) ⊎ (suc k < p) → ((k + 1 < p) × (next p k ≡ k + 1)) ⊎ ((k + 1 ≡ p) × (next p k ≡ 0))
    go (inl e) = let f : k + 1 ≡ p = omega arith in inr (f, rw f (mod_self p))
    go (inr l) = let f : k + 1 < p = omega arith in inl (f, mod-eq_of_lt f)

pub next_lt : (p k : ℕ) → k < p → next p k < p
next_lt p k h = go (next_cases p k h)
  where
    go : ((k + 1 < p) × (next p k ≡ k + 1)) ⊎ ((k + 1 ≡ p) × (next p k ≡ 0)) → next p k < p
    go (inl c) = omega arith
    go (inr c) = omega arith

-- going once round: the sum over the next sides is the sum over the sides
pub around : (h : ℕ → ℕ) (p : ℕ) → 0 < p → sum (λ k. h (next p k)) p ≡ sum h p
unfolding sum
around h zero l = absurd (omega arith)
around h (suc q) l =
    let inner : sum (λ k. h (next (suc q) k)) q ≡ sum (λ k. h (suc k)) q = sum_cong _ _ q (λ k i. ap h (inside k i (next_cases (suc q) k (omega arith)))) in
    let last : h (next (suc q) q) ≡ h 0 = ap h (end (next_cases (suc q) q (omega arith))) in
    omega (arith, sum_front h q)
  where
    inside : (k : ℕ) → k < q → ((k + 1 < suc q) × (next (suc q) k ≡ k + 1)) ⊎ ((k + 1 ≡ suc q) × (next (suc q) k ≡ 0)) → next (suc q) k ≡ suc k
    inside k i (inl c) = omega arith
    inside k i (inr c) = omega arith

    end : ((q + 1 < suc q) × (next (suc q) q ≡ q + 1)) ⊎ ((q + 1 ≡ suc q) × (next (suc q) q ≡ 0)) → next (suc q) q ≡ 0
    end (inl c) = omega arith
    end (inr c) = omega arith

-- ---- the edges of lists one after the other

pub occurs_append : (x y n : ℕ) (l r : List ℕ) → length l ≡ 3 * n → occurs x y (l ++ r) ≡ occurs x y l + occurs x y r
unfolding occurs
occurs_append x y n [] r h = omega arith
occurs_append x y n (a ∷ []) r h = absurd (omega arith)
occurs_append x y n (a ∷ b ∷ []) r h = absurd (omega arith)
occurs_append x y n (a ∷ b ∷ c ∷ l) r h = omega (arith, occurs_append x y (n - 1) l r (omega arith))

-- c triangles a piece
pub upto_size : (f : ℕ → List ℕ) (c n : ℕ) → ((k : ℕ) → length (f k) ≡ 3 * c) → length (upto f n) ≡ 3 * (n * c)
upto_size f c n h = length_upto f (3 * c) n (λ k _. h k) ∙ omega arith

pub occurs_upto : (x y : ℕ) (f : ℕ → List ℕ) (c n : ℕ) → ((k : ℕ) → length (f k) ≡ 3 * c) → occurs x y (upto f n) ≡ sum (λ k. occurs x y (f k)) n
unfolding sum occurs upto
occurs_upto x y f c zero h = refl
occurs_upto x y f c (suc n) h = occurs_append x y (n * c) (upto f n) (f n) (upto_size f c n h) ∙ ap (λ (z : ℕ). z + occurs x y (f n)) (occurs_upto x y f c n h)
