-- The surface of a tube: it grows ring by ring, and is closed at its end. Assumes nothing.
use mathlib.Core.Path.{◌≡◌, refl, sym, ◌∙◌}
use mathlib.Core.Logic.{◌⊎◌, ⊎_elim}
use mathlib.Core.Bool.{Bool, true, false}
use mathlib.Core.List.{List, ◌++◌}
use Prim.Native.Nat.{ℕ, zero, suc, ◌+◌, ◌*◌, ◌-◌, ◌≤◌, ◌<◌}
use native.Mathlib.Nat.{eq-or-lt_of_le}
use native.Mathlib.Omega.{arith}
use lib.ListN.{length, length-append}
use Rattle.lists.specs.Put.{upto}
use Rattle.edges.specs.Sound.{is, occurs}
use Rattle.edges.specs.Tube.{next, cap_side, band_side, cap, band, ring, band_at, start_centre, end_centre, stack}
use Rattle.edges.proofs.Count.{lt_or_le, is_flip, sum_cong, sum_add, sum_add₃, around, occurs_append, occurs_upto, upto_size}
use Rattle.edges.proofs.Family.{family_hit}
use Rattle.edges.proofs.Piece.{Piece, join, loop, spokes, rungs, loop_piece, spokes_piece, rungs_piece}

-- ---- sizes

pub cap_side_size : (p : ℕ) (inward : Bool) (c a k : ℕ) → length (cap_side p inward c a k) ≡ 3
cap_side_size p true c a k = refl
cap_side_size p false c a k = refl

pub cap_size : (p : ℕ) (inward : Bool) (c a : ℕ) → length (cap p inward c a) ≡ 3 * p
unfolding cap
cap_size p inward c a = omega (arith, upto_size (cap_side p inward c a) 1 p (λ k. cap_side_size p inward c a k))

pub band_size : (p a b : ℕ) → length (band p a b) ≡ 3 * (p * 2)
unfolding band
band_size p a b = upto_size (band_side p a b) 2 p (λ k. refl)

pub bands_size : (p o m : ℕ) → length (upto (band_at p o) m) ≡ 3 * (m * (p * 2))
bands_size p o m = upto_size (band_at p o) (p * 2) m (λ j. band_size p _ _)

pub stack_size : (p o m : ℕ) → length (stack p o m) ≡ 3 * (2 * p * m + 2 * p)
unfolding stack
stack_size p o m =
    simp length-append (omega (arith, cap_size p true (start_centre p o) o, bands_size p o m, cap_size p false (end_centre p o m) (ring p o m)))

-- ---- the edges of a cap and of a band, by kind

module _ (p : ℕ) (some-side : 0 < p) (x y : ℕ) where
  cap_count : (c a : ℕ) → occurs x y (cap p false c a) ≡ spokes p a c y x + loop p a x y + spokes p a c x y
  unfolding occurs cap
  cap_count c a =
      occurs_upto x y (cap_side p false c a) 1 p (λ k. refl)
      ∙ sum_add₃ _ (λ k. is y x (a + k, c)) (λ k. is x y (a + k, a + next p k)) (λ k. is x y (a + next p k, c)) p
      (λ k. omega (arith, is_flip x y c (a + k)))
      ∙ omega (arith, around (λ k. is x y (a + k, c)) p some-side)

  -- an inward cap is the other turned round
  cap_turned : (c a : ℕ) → occurs x y (cap p true c a) ≡ occurs y x (cap p false c a)
  unfolding occurs cap
  cap_turned c a =
      occurs_upto x y (cap_side p true c a) 1 p (λ k. refl)
      ∙ sum_cong _ _ p (λ k _. omega (arith, is_flip x y c (a + next p k), is_flip x y (a + next p k) (a + k), is_flip x y (a + k) c))
      ∙ sym (occurs_upto y x (cap_side p false c a) 1 p (λ k. refl))

  band_count : (a b : ℕ) → occurs x y (band p a b) ≡ rungs p a b x y + (loop p a x y + loop p b y x)
  unfolding occurs band
  band_count a b =
      occurs_upto x y (band_side p a b) 2 p (λ k. refl)
      ∙ sum_add₃ _ (λ k. is x y (a + k, b + next p k) + is y x (a + k, b + next p k)) (λ k. is x y (a + next p k, b + next p k) + is y x (a + k, b + k))
      (λ k. is x y (a + k, a + next p k) + is y x (b + k, b + next p k)) p
      (λ k. omega (arith, is_flip x y (b + next p k) (b + k), is_flip x y (b + k) (a + k), is_flip x y (b + next p k) (a + k)))
      ∙ omega (
        arith,
        sum_add _ (λ k. is x y (a + k, b + next p k)) (λ k. is y x (a + k, b + next p k)) p (λ k. refl),
        sum_add _ (λ k. is x y (a + next p k, b + next p k)) (λ k. is y x (a + k, b + k)) p (λ k. refl),
        sum_add _ (λ k. is x y (a + k, a + next p k)) (λ k. is y x (b + k, b + next p k)) p (λ k. refl),
        around (λ k. is x y (a + k, b + k)) p some-side,
      )

-- ---- the surface grows, ring by ring

-- A closed surface over the vertices from o up to v: each edge at most once, its reverse as often, no edge from a vertex to itself, each vertex in use
pub record Closed (o v : ℕ) (G : ℕ → ℕ → ℕ) : Type 0 where
  pub piece : Piece o v o v G
  pub used : (u : ℕ) → o ≤ u → u < v → (w : ℕ) × (0 < G u w)

-- a vertex up to the last is the last or comes before it
at_end_lem : (m n : ℕ) → m ≤ n → (m ≡ n) ⊎ (m < n)
at_end_lem m n h = eq-or-lt_of_le h

module _ (p o : ℕ) (sides : 3 ≤ p) where
  bands : ℕ → List ℕ
  bands j = upto (band_at p o) j

  -- the triangles up to ring j, with the edges of one more face, which closes them at ring j
  up_to : ℕ → ℕ → ℕ → ℕ
  up_to j x y = occurs x y (cap p true (start_centre p o) o) + occurs x y (bands j) + loop p (ring p o j) x y

  ring_next : (j : ℕ) → (o ≤ ring p o j) × (ring p o j + p ≤ ring p o (suc j)) × (ring p o (suc j) ≡ o + (p * suc j + 1))
  unfolding ring
  ring_next zero = omega arith
  ring_next (suc j) = omega arith

  bands_count : (j x y : ℕ) → occurs x y (bands (suc j)) ≡ occurs x y (bands j) + occurs x y (band_at p o j)
  unfolding bands upto
  bands_count j x y = occurs_append x y (j * (p * 2)) (bands j) (band_at p o j) (bands_size p o j)

  loop_used : (a u : ℕ) → a ≤ u → u < a + p → (w : ℕ) × (0 < loop p a u w)
  loop_used a u l h =
      let k : ℕ = u - a in
      let e : a + k ≡ u = omega arith in
      (a + next p k, rw e at (family_hit a (λ k. a + next p k) p k (omega arith)))

  -- the start's cap, closed by the face of ring 0
  first_count : (x y : ℕ) → up_to 0 x y ≡ loop p o x y + loop p o y x + (spokes p o (o + p) x y + spokes p o (o + p) y x)
  unfolding up_to bands upto ring occurs
  first_count x y = omega (arith, cap_turned p (omega arith) x y (o + p) o, cap_count p (omega arith) y x (o + p) o)

  closed_first : Closed o (o + (p * 1 + 1)) (up_to 0)
  closed_first = record {
    piece = join o _ o _ (up_to 0) (loop_piece p sides o) (spokes_piece p sides o (o + p) (omega arith))
        (λ x y h i. omega (arith, (loop_piece p sides o).lies x y h, (spokes_piece p sides o (o + p) (omega arith)).lies x y i))
        (λ x y l. omega arith) (λ x y l. omega arith) first_count;
    used = λ u l h. ⊎_elim
        (λ e. (o + 0, rw e (omega (arith, first_count (o + p) (o + 0), family_hit o (λ k. o + p) p 0 (omega arith)))))
        (λ i. let w = loop_used o u l (omega arith) in (w.0, omega (arith, first_count u w.0, w.1)))
        (at_end_lem u (o + p) (omega arith));
  }

  -- one more ring: the edges between the rings, and the new ring's own, each with its reverse
  next_count : (j x y : ℕ) → up_to (suc j) x y
      ≡ up_to j x y + rungs p (ring p o j) (ring p o (suc j)) x y + (loop p (ring p o (suc j)) x y + loop p (ring p o (suc j)) y x)
  unfolding up_to
  next_count j x y = omega (arith, bands_count j x y, band_count p (omega arith) x y (ring p o j) (ring p o (suc j)))

  closed_next : (j : ℕ) → Closed o (o + (p * suc j + 1)) (up_to j) → Closed o (o + (p * suc (suc j) + 1)) (up_to (suc j))
  closed_next j c =
      let a = ring p o j in
      let b = ring p o (suc j) in
      let r = ring_next j in
      let between = rungs_piece p sides a b r.1 in
      let open_end : Piece o b o (b + p) (λ x y. up_to j x y + rungs p a b x y) =
      join o _ o _ _ c.piece between (λ x y h i. omega (arith, c.piece.lies x y h, between.lies x y i)) (λ x y l. omega arith) (λ x y l. omega arith) (λ x y. refl) in
      record {
        piece = join o _ o _ (up_to (suc j)) open_end (loop_piece p sides b)
            (λ x y h i. omega (arith, open_end.lies x y h, (loop_piece p sides b).lies x y i)) (λ x y l. omega arith) (λ x y l. omega arith) (next_count j);
        used = λ u l h. ⊎_elim
            (λ i. let w = c.used u l (omega arith) in (w.0, omega (arith, next_count j u w.0, w.1)))
            (λ i. let w = loop_used b u (omega arith) (omega arith) in (w.0, omega (arith, next_count j u w.0, w.1)))
            (lt_or_le u b);
      }

  closed_up_to : (j : ℕ) → Closed o (o + (p * suc j + 1)) (up_to j)
  closed_up_to zero = closed_first
  closed_up_to (suc j) = closed_next j (closed_up_to j)

  -- ---- the whole tube

  stack_count : (m x y : ℕ) → occurs x y (stack p o m)
      ≡ up_to m x y + (spokes p (ring p o m) (end_centre p o m) x y + spokes p (ring p o m) (end_centre p o m) y x)
  unfolding stack up_to bands
  stack_count m x y =
      let s = cap p true (start_centre p o) o in
      let e = cap p false (end_centre p o m) (ring p o m) in
      omega (
        arith,
        occurs_append x y (p + m * (p * 2)) (s ++ bands m) e (length-append s (bands m) ∙ omega (arith, cap_size p true (start_centre p o) o, bands_size p o m)),
        occurs_append x y p s (bands m) (cap_size p true (start_centre p o) o),
        cap_count p (omega arith) x y (end_centre p o m) (ring p o m),
      )

  pub closed_stack : (m : ℕ) → Closed o (o + (p * suc m + 2)) (λ x y. occurs x y (stack p o m))
  closed_stack m =
      let a = ring p o m in
      let c : ℕ = end_centre p o m in
      let r = ring_next m in
      let up = closed_up_to m in
      let end = spokes_piece p sides a c (omega arith) in
      record {
        piece = join o _ o _ _ up.piece end (λ x y h i. omega (arith, up.piece.lies x y h, end.lies x y i)) (λ x y l. omega arith) (λ x y l. omega arith) (stack_count m);
        used = λ u l h. ⊎_elim
            (λ e. (a + 0, rw e (omega (arith, stack_count m c (a + 0), family_hit a (λ k. c) p 0 (omega arith)))))
            (λ i. let w = up.used u l i in (w.0, omega (arith, stack_count m u w.0, w.1)))
            (at_end_lem u c (omega arith));
      }
