-- What the counts of edges say of the corners, and the other way round. Assumes nothing.
use mathlib.Core.Path.{◌≡◌, refl, sym, ap, ◌∙◌, subst, subst₃}
use mathlib.Core.Logic.{◌⊎◌, inl, inr, ⊎_elim, ◌≢◌}
use mathlib.Core.List.{List, [], ◌∷◌}
use Prim.Native.Nat.{ℕ, zero, suc, ◌+◌, ◌*◌, ◌-◌, ◌≤◌, ◌<◌}
use native.Mathlib.Nat.{eq-zero-or-pos}
use native.Mathlib.Omega.{arith}
use lib.ListN.{length, get_or}
use Rattle.edges.specs.Sound.{is, occurs, EachTriangle, CornersDiffer, Sound}
use Rattle.edges.proofs.Count.{is_or, is_same}
use Rattle.edges.proofs.Stack.{Closed}

-- each corner starts an edge
pub starts : (l : List ℕ) (n i : ℕ) → length l ≡ 3 * n → i < length l → (y : ℕ) × (0 < occurs (get_or l i 0) y l)
unfolding occurs
starts [] n i e h = absurd (omega arith)
starts (a ∷ []) n i e h = absurd (omega arith)
starts (a ∷ b ∷ []) n i e h = absurd (omega arith)
starts (a ∷ b ∷ c ∷ r) n zero e h = (b, omega (arith, is_same a b))
starts (a ∷ b ∷ c ∷ r) n (suc zero) e h = (c, omega (arith, is_same b c))
starts (a ∷ b ∷ c ∷ r) n (suc (suc zero)) e h = (a, omega (arith, is_same c a))
starts (a ∷ b ∷ c ∷ r) n (suc (suc (suc i))) e h =
    let s = starts r (n - 1) i (omega arith) (omega arith) in
    (s.0, omega (arith, s.1))

-- an edge starts at a corner
pub started : (x y : ℕ) (l : List ℕ) → 0 < occurs x y l → (i : ℕ) × (i < length l) × (get_or l i 0 ≡ x)
unfolding occurs
started x y [] h = absurd (omega arith)
started x y (a ∷ []) h = absurd (omega arith)
started x y (a ∷ b ∷ []) h = absurd (omega arith)
started x y (a ∷ b ∷ c ∷ r) h = go (started x y r) (is_or x y a b) (is_or x y b c) (is_or x y c a)
  where
    go : (0 < occurs x y r → (i : ℕ) × (i < length r) × (get_or r i 0 ≡ x))
        → (is x y (a, b) ≡ 0) ⊎ ((is x y (a, b) ≡ 1) × (x ≡ a) × (y ≡ b))
        → (is x y (b, c) ≡ 0) ⊎ ((is x y (b, c) ≡ 1) × (x ≡ b) × (y ≡ c))
        → (is x y (c, a) ≡ 0) ⊎ ((is x y (c, a) ≡ 1) × (x ≡ c) × (y ≡ a))
        → (i : ℕ) × (i < suc (suc (suc (length r)))) × (get_or (a ∷ b ∷ c ∷ r) i 0 ≡ x)
    go rest (inr s) t u = (0, omega arith, sym s.1)
    go rest (inl s) (inr t) u = (1, omega arith, sym t.1)
    go rest (inl s) (inl t) (inr u) = (2, omega arith, sym u.1)
    go rest (inl s) (inl t) (inl u) = let w = rest (omega arith) in (suc (suc (suc w.0)), omega (arith, w.1), w.2)

-- both ends of an edge are corners
pub ends : (P : ℕ → Type 0) (x y : ℕ) (l : List ℕ) → ((i : ℕ) → i < length l → P (get_or l i 0)) → 0 < occurs x y l → P x × P y
unfolding occurs
ends P x y [] f h = absurd (omega arith)
ends P x y (a ∷ []) f h = absurd (omega arith)
ends P x y (a ∷ b ∷ []) f h = absurd (omega arith)
ends P x y (a ∷ b ∷ c ∷ r) f h = go (ends P x y r (λ i k. f (suc (suc (suc i))) (omega arith))) (is_or x y a b) (is_or x y b c) (is_or x y c a)
  where
    go : (0 < occurs x y r → P x × P y)
        → (is x y (a, b) ≡ 0) ⊎ ((is x y (a, b) ≡ 1) × (x ≡ a) × (y ≡ b))
        → (is x y (b, c) ≡ 0) ⊎ ((is x y (b, c) ≡ 1) × (x ≡ b) × (y ≡ c))
        → (is x y (c, a) ≡ 0) ⊎ ((is x y (c, a) ≡ 1) × (x ≡ c) × (y ≡ a))
        → P x × P y
    go rest (inr s) t u = (subst P (sym s.1) (f 0 (omega arith)), subst P (sym s.2) (f 1 (omega arith)))
    go rest (inl s) (inr t) u = (subst P (sym t.1) (f 1 (omega arith)), subst P (sym t.2) (f 2 (omega arith)))
    go rest (inl s) (inl t) (inr u) = (subst P (sym u.1) (f 2 (omega arith)), subst P (sym u.2) (f 0 (omega arith)))
    go rest (inl s) (inl t) (inl u) = rest (omega arith)

-- ---- a fact of each triangle

past : (a b c : ℕ) (r : List ℕ) (k n : ℕ) → suc (suc (suc k)) ≡ n → get_or r k 0 ≡ get_or (a ∷ b ∷ c ∷ r) n 0
past a b c r k n e = ap (λ (i : ℕ). get_or (a ∷ b ∷ c ∷ r) i 0) e

module _ (P : ℕ → ℕ → ℕ → Type 0) where
  each_cons : (a b c : ℕ) (r : List ℕ) → P a b c → EachTriangle P r → EachTriangle P (a ∷ b ∷ c ∷ r)
  each_cons a b c r h rest zero l = h
  each_cons a b c r h rest (suc t) l =
      subst₃ P (past a b c r (3 * t) (3 * suc t) (omega arith)) (past a b c r (3 * t + 1) (3 * suc t + 1) (omega arith)) (past a b c r (3 * t + 2) (3 * suc t + 2) (omega arith)) (rest t (omega arith))

  each_tail : (a b c : ℕ) (r : List ℕ) → EachTriangle P (a ∷ b ∷ c ∷ r) → EachTriangle P r
  each_tail a b c r all t l =
      subst₃ P (sym (past a b c r (3 * t) (3 * suc t) (omega arith))) (sym (past a b c r (3 * t + 1) (3 * suc t + 1) (omega arith))) (sym (past a b c r (3 * t + 2) (3 * suc t + 2) (omega arith)))
      (all (suc t) (omega arith))

self : (a b : ℕ) → a ≡ b → is a a (a, b) ≡ 1
self a b e = subst (λ (z : ℕ). is a z (a, b) ≡ 1) (sym e) (is_same a b)

-- no edge goes from a vertex to itself exactly where the corners of each triangle differ
pub differ_of : (l : List ℕ) → ((x : ℕ) → occurs x x l ≡ 0) → CornersDiffer l
unfolding occurs
differ_of [] f = λ t h. absurd (omega arith)
differ_of (a ∷ []) f = λ t h. absurd (omega arith)
differ_of (a ∷ b ∷ []) f = λ t h. absurd (omega arith)
differ_of (a ∷ b ∷ c ∷ r) f =
    each_cons (λ i j k. (i ≢ j) × (j ≢ k) × (k ≢ i)) a b c r
    (λ e. omega (arith, f a, self a b e), λ e. omega (arith, f b, self b c e), λ e. omega (arith, f c, self c a e))
    (differ_of r (λ x. omega (arith, f x)))

pub of_differ : (l : List ℕ) → CornersDiffer l → (x : ℕ) → occurs x x l ≡ 0
unfolding occurs
of_differ [] d x = refl
of_differ (a ∷ []) d x = refl
of_differ (a ∷ b ∷ []) d x = refl
of_differ (a ∷ b ∷ c ∷ r) d x =
    let h = d 0 (omega arith) in
    let s : is x x (a, b) ≡ 0 = ⊎_elim (λ z. z) (λ w. absurd (h.0 (sym w.1 ∙ w.2))) (is_or x x a b) in
    let t : is x x (b, c) ≡ 0 = ⊎_elim (λ z. z) (λ w. absurd (h.1 (sym w.1 ∙ w.2))) (is_or x x b c) in
    let u : is x x (c, a) ≡ 0 = ⊎_elim (λ z. z) (λ w. absurd (h.2 (sym w.1 ∙ w.2))) (is_or x x c a) in
    omega (arith, of_differ r (each_tail (λ i j k. (i ≢ j) × (j ≢ k) × (k ≢ i)) a b c r d) x)

-- ---- a sound list is a closed surface, and the other way round

pub sound : (o v t : ℕ) (l : List ℕ) → length l ≡ 3 * t → Closed o v (λ x y. occurs x y l) → Sound o v t l
sound o v t l e c = record {
  size = e;
  within = λ i h. let s = starts l t i e h in omega (arith, c.piece.lies (get_or l i 0) s.0 s.1);
  differ = differ_of l (λ x. ⊎_elim (λ z. z) (λ h. absurd ((c.piece.lies x x h).proper refl)) (eq-zero-or-pos (occurs x x l)));
  paired = λ x y h. omega (arith, c.piece.once x y, c.piece.twin x y);
  used = λ u i h. let w = c.used u i h in started u w.0 l w.1;
}

pub closed : (o v t : ℕ) (l : List ℕ) → Sound o v t l → Closed o v (λ x y. occurs x y l)
closed o v t l s = record {
  piece = record {
    once = λ x y. ⊎_elim (λ z. omega arith) (λ h. omega (arith, s.paired x y h)) (eq-zero-or-pos (occurs x y l));
    twin = twin;
    lies = λ x y h.
        let e = ends (λ (u : ℕ). (o ≤ u) × (u < v)) x y l s.within h in
        let n : x ≢ y = λ q. omega (arith, of_differ l s.differ x, rw (← q) at h) in
        omega (arith, e.0, e.1);
  };
  used = λ u i h. let c = s.used u i h in let w = starts l t c.0 s.size c.1 in (w.0, rw c.2 at w.1);
}
  where
    twin : (x y : ℕ) → occurs x y l ≡ occurs y x l
    twin x y = ⊎_elim
        (λ z. ⊎_elim (λ w. omega arith) (λ h. omega (arith, s.paired y x h)) (eq-zero-or-pos (occurs y x l)))
        (λ h. omega (arith, s.paired x y h)) (eq-zero-or-pos (occurs x y l))
