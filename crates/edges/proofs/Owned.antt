-- The edge rule by counts and the edge rule by corners are one rule. Assumes nothing.
use mathlib.Core.Path.{◌≡◌, refl, sym, ap, ◌∙◌, subst}
use mathlib.Core.Logic.{◌⊎◌, inl, inr, ⊎_elim}
use mathlib.Core.List.{List, [], ◌∷◌}
use Prim.Native.Nat.{ℕ, zero, suc, ◌+◌, ◌*◌, ◌-◌, ◌≤◌, ◌<◌}
use native.Mathlib.Nat.{eq-zero-or-pos}
use native.Mathlib.Omega.{arith}
use lib.ListN.{length, get_or}
use Rattle.edges.specs.Sound.{Edge, edges, is, count, occurs, EdgesPaired}
use Rattle.edges.proofs.Count.{is_or, is_same}

-- edge i goes from corner i to the next corner of its triangle
abbrev pub edge : List ℕ → ℕ → Edge
edge l i = get_or (edges l) i (0, 0)

-- no two corners start one edge, and for each corner some corner starts the reverse of its edge
pub record EdgesOwned (l : List ℕ) : Type 0 where
  pub one : (i j : ℕ) → i < length l → j < length l → edge l i ≡ edge l j → i ≡ j
  pub twin : (i : ℕ) → i < length l → (j : ℕ) × (j < length l) × (edge l j ≡ ((edge l i).1, (edge l i).0))

-- ---- any list of edges

abbrev at : List Edge → ℕ → Edge
at es i = get_or es i (0, 0)

count_at : (es : List Edge) (i : ℕ) → i < length es → 0 < count (at es i).0 (at es i).1 es
count_at [] i h = absurd (omega arith)
count_at (e ∷ es) zero h = omega (arith, is_same e.0 e.1)
count_at (e ∷ es) (suc i) h = omega (arith, count_at es i (omega arith))

count_find : (x y : ℕ) (es : List Edge) → 0 < count x y es → (i : ℕ) × (i < length es) × (at es i ≡ (x, y))
count_find x y [] h = absurd (omega arith)
count_find x y (e ∷ es) h = go (count_find x y es) (is_or x y e.0 e.1)
  where
    go : (0 < count x y es → (i : ℕ) × (i < length es) × (at es i ≡ (x, y)))
        → (is x y e ≡ 0) ⊎ ((is x y e ≡ 1) × (x ≡ e.0) × (y ≡ e.1)) → (i : ℕ) × (i < suc (length es)) × (at (e ∷ es) i ≡ (x, y))
    go rest (inl z) = let w = rest (omega arith) in (suc w.0, omega (arith, w.1), w.2)
    go rest (inr s) = (0, omega arith, λ k. (sym s.1 k, sym s.2 k))

once_one : (es : List Edge) → ((x y : ℕ) → count x y es ≤ 1) → (i j : ℕ) → i < length es → j < length es → at es i ≡ at es j → i ≡ j
once_one [] f i j h k q = absurd (omega arith)
once_one (e ∷ es) f zero zero h k q = refl
once_one (e ∷ es) f zero (suc j) h k q =
    let c : 0 < count e.0 e.1 es = subst (λ (d : Edge). 0 < count d.0 d.1 es) (sym q) (count_at es j (omega arith)) in
    omega (arith, f e.0 e.1, is_same e.0 e.1)
once_one (e ∷ es) f (suc i) zero h k q =
    let c : 0 < count e.0 e.1 es = subst (λ (d : Edge). 0 < count d.0 d.1 es) q (count_at es i (omega arith)) in
    omega (arith, f e.0 e.1, is_same e.0 e.1)
once_one (e ∷ es) f (suc i) (suc j) h k q = ap suc (once_one es (λ x y. omega (arith, f x y)) i j (omega arith) (omega arith) q)

one_once : (es : List Edge) → ((i j : ℕ) → i < length es → j < length es → at es i ≡ at es j → i ≡ j) → (x y : ℕ) → count x y es ≤ 1
one_once [] f x y = omega arith
one_once (e ∷ es) f x y = go (one_once es (λ i j h k q. omega (arith, f (suc i) (suc j) (omega arith) (omega arith) q)) x y) (is_or x y e.0 e.1) (eq-zero-or-pos (count x y es))
  where
    go : count x y es ≤ 1 → (is x y e ≡ 0) ⊎ ((is x y e ≡ 1) × (x ≡ e.0) × (y ≡ e.1)) → (count x y es ≡ 0) ⊎ (0 < count x y es) → is x y e + count x y es ≤ 1
    go rest (inl z) c = omega arith
    go rest (inr s) (inl c) = omega arith
    go rest (inr s) (inr c) =
        let w = count_find x y es c in
        omega (arith, f 0 (suc w.0) (omega arith) (omega (arith, w.1)) (sym (w.2 ∙ λ k. (s.1 k, s.2 k))))

-- ---- the two rules

pub length_edges : (n : ℕ) (l : List ℕ) → length l ≡ 3 * n → length (edges l) ≡ length l
length_edges n [] h = refl
length_edges n (a ∷ []) h = absurd (omega arith)
length_edges n (a ∷ b ∷ []) h = absurd (omega arith)
length_edges n (a ∷ b ∷ c ∷ l) h = omega (arith, length_edges (n - 1) l (omega arith))

pub owned : (n : ℕ) (l : List ℕ) → length l ≡ 3 * n → EdgesPaired l → EdgesOwned l
unfolding occurs
owned n l e f =
    let len = length_edges n l e in
    record {
      one = λ i j h k q. once_one (edges l) (λ x y. ⊎_elim (λ z. omega arith) (λ c. omega (arith, f x y c)) (eq-zero-or-pos (count x y (edges l)))) i j (omega arith) (omega arith) q;
      twin = λ i h.
          let p = f (edge l i).0 (edge l i).1 (count_at (edges l) i (omega arith)) in
          let w = count_find (edge l i).1 (edge l i).0 (edges l) (omega arith) in
          (w.0, omega (arith, w.1), w.2);
    }

pub paired : (n : ℕ) (l : List ℕ) → length l ≡ 3 * n → EdgesOwned l → EdgesPaired l
unfolding occurs
paired n l e o x y h =
    let len = length_edges n l e in
    let once : (u v : ℕ) → count u v (edges l) ≤ 1 = one_once (edges l) (λ i j p q r. o.one i j (omega arith) (omega arith) r) in
    let w = count_find x y (edges l) h in
    let t = o.twin w.0 (omega (arith, w.1)) in
    let r : edge l t.0 ≡ (y, x) = t.2 ∙ ap {B = Edge} (λ (d : Edge). (d.1, d.0)) w.2 in
    let c : 0 < count y x (edges l) = subst (λ (d : Edge). 0 < count d.0 d.1 (edges l)) r (count_at (edges l) t.0 (omega (arith, t.1))) in
    (omega (arith, once x y), omega (arith, once y x))
