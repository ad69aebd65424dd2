-- Triangle lists one after the other, over vertices one after the other: the rules hold of the whole where they hold of the parts, and
-- the edge rule of the parts where it holds of the whole. Assumes nothing.
use mathlib.Core.Path.{◌≡◌, refl, ◌∙◌, subst₂}
use mathlib.Core.Logic.{⊎_elim}
use mathlib.Core.List.{List, [], ◌++◌}
use Prim.Native.Nat.{ℕ, suc, ◌+◌, ◌*◌, ◌-◌, ◌≤◌, ◌<◌}
use native.Mathlib.Nat.{eq-zero-or-pos}
use native.Mathlib.Omega.{arith}
use lib.ListN.{length, length-append, get_or-append}
use lib.Seq.{get_or-append-add}
use Rattle.edges.specs.Sound.{occurs, EdgesPaired, Sound, MeshPart}
use Rattle.edges.specs.Tube.{stack}
use Rattle.edges.proofs.Count.{lt_or_le, occurs_append}
use Rattle.edges.proofs.Piece.{either, join}
use Rattle.edges.proofs.Stack.{stack_size, closed_stack}
use Rattle.edges.proofs.Corners.{sound, closed, starts, started, ends, differ_of, of_differ}

-- the same vertices and triangles, counted another way
pub recount : {o v w t s : ℕ} {l : List ℕ} → v ≡ w → t ≡ s → Sound o v t l → Sound o w s l
recount {o} {l} ev et s = subst₂ (λ (v t : ℕ). Sound o v t l) ev et s

-- nothing is sound over no vertices
pub empty_sound : (o : ℕ) → Sound o (o + 0) 0 []
unfolding occurs
empty_sound o = record {
  size = refl;
  within = λ i h. absurd (omega arith);
  differ = λ t h. absurd (omega arith);
  paired = λ x y h. absurd (omega arith);
  used = λ u i h. absurd (omega arith);
}

pub stack_sound : (p o m : ℕ) → 3 ≤ p → Sound o (o + (p * suc m + 2)) (2 * p * m + 2 * p) (stack p o m)
stack_sound p o m sides = sound o _ _ (stack p o m) (stack_size p o m) (closed_stack p o sides m)

-- two sound lists, one after the other
pub glue : (o v w : ℕ) {t s : ℕ} {l r : List ℕ} → o ≤ v → v ≤ w → Sound o v t l → Sound v w s r → Sound o w (t + s) (l ++ r)
glue o v w {t} {s} {l} {r} ov vw a b =
    let c = closed o v t l a in
    let d = closed v w s r b in
    let both : (x y : ℕ) → occurs x y (l ++ r) ≡ occurs x y l + occurs x y r = λ x y. occurs_append x y t l r a.size in
    sound o w (t + s) (l ++ r) (length-append l r ∙ omega (arith, a.size, b.size)) (record {
      piece = join o w o w _ c.piece d.piece (λ x y h i. omega (arith, c.piece.lies x y h, d.piece.lies x y i)) (λ x y i. omega arith) (λ x y i. omega arith) both;
      used = λ u i h. ⊎_elim
          (λ j. let e = c.used u i j in (e.0, omega (arith, both u e.0, e.1)))
          (λ j. let e = d.used u j h in (e.0, omega (arith, both u e.0, e.1)))
          (lt_or_le u v);
    })

-- ---- the edge rule by itself, of parts with no vertex in common

-- both ends of an edge of a part are vertices of the part
part_ends : {o v t : ℕ} {l : List ℕ} → MeshPart o v t l → (x y : ℕ) → 0 < occurs x y l → ((o ≤ x) × (x < v)) × ((o ≤ y) × (y < v))
part_ends {o} {v} {l} part x y h = ends (λ (u : ℕ). (o ≤ u) × (u < v)) x y l part.within h

module _ {o v w t s : ℕ} {l r : List ℕ} (first : MeshPart o v t l) (second : MeshPart v w s r) where
  -- an edge of one part is none of the other
  apart : (x y : ℕ) → 0 < occurs x y l → (occurs x y r ≡ 0) × (occurs y x r ≡ 0)
  apart x y h =
      let in-l = part_ends first x y h in (
        ⊎_elim (λ z. z) (λ k. absurd (omega (arith, part_ends second x y k))) (eq-zero-or-pos (occurs x y r)),
        ⊎_elim (λ z. z) (λ k. absurd (omega (arith, part_ends second y x k))) (eq-zero-or-pos (occurs y x r)),
      )

  apart' : (x y : ℕ) → 0 < occurs x y r → (occurs x y l ≡ 0) × (occurs y x l ≡ 0)
  apart' x y h = (
    ⊎_elim (λ z. z) (λ k. absurd (omega (arith, apart x y k))) (eq-zero-or-pos (occurs x y l)),
    ⊎_elim (λ z. z) (λ k. absurd (omega (arith, apart y x k))) (eq-zero-or-pos (occurs y x l)),
  )

  sums : (x y : ℕ) → occurs x y (l ++ r) ≡ occurs x y l + occurs x y r
  sums x y = occurs_append x y t l r first.size

  -- it holds of the parts where it holds of the whole
  pub unglue : EdgesPaired (l ++ r) → EdgesPaired l × EdgesPaired r
  unglue all = (
    λ x y h. let p = all x y (omega (arith, sums x y)) in omega (arith, sums x y, sums y x, apart x y h),
    λ x y h. let p = all x y (omega (arith, sums x y)) in omega (arith, sums x y, sums y x, apart' x y h),
  )

  -- and of the whole where it holds of the parts
  pub glue_paired : EdgesPaired l → EdgesPaired r → EdgesPaired (l ++ r)
  glue_paired left right x y h = ⊎_elim
      (λ z. let k : 0 < occurs x y r = omega (arith, sums x y) in omega (arith, sums x y, sums y x, right x y k, apart' x y k))
      (λ k. omega (arith, sums x y, sums y x, left x y k, apart x y k))
      (eq-zero-or-pos (occurs x y l))

  -- both parts are one
  pub joined : o ≤ v → v ≤ w → MeshPart o w (t + s) (l ++ r)
  joined ov vw = record {
    size = length-append l r ∙ omega (arith, first.size, second.size);
    within = λ i h. ⊎_elim
        (λ k. rw (get_or-append l r 0 i k) (omega (arith, first.within i k)))
        (λ k.
        let e : length l + (i - length l) ≡ i = omega arith in
        rw (← e) (rw (get_or-append-add l r (i - length l) 0) (omega (arith, second.within (i - length l) (omega (arith, length-append l r))))))
        (lt_or_le i (length l));
  }

  -- each part of a sound list is sound
  pub unglue_sound : {k : ℕ} → o ≤ v → v ≤ w → Sound o w k (l ++ r) → Sound o v t l × Sound v w s r
  unglue_sound {k} ov vw whole = (
    record {
      size = first.size;
      within = first.within;
      differ = differ_of l (λ x. omega (arith, sums x x, of_differ (l ++ r) whole.differ x));
      paired = (unglue whole.paired).0;
      used = λ u low high.
          let e = starts_at u low (omega arith) in
          either _ _ (started u e.0 l) (λ h. absurd (omega (arith, part_ends second u e.0 h))) e.1;
    },
    record {
      size = second.size;
      within = second.within;
      differ = differ_of r (λ x. omega (arith, sums x x, of_differ (l ++ r) whole.differ x));
      paired = (unglue whole.paired).1;
      used = λ u low high.
          let e = starts_at u (omega arith) high in
          either _ _ (λ h. absurd (omega (arith, part_ends first u e.0 h))) (started u e.0 r) e.1;
    },
  )
    where
      -- an edge starts at each vertex, in one part or the other
      starts_at : (u : ℕ) → o ≤ u → u < w → (y : ℕ) × (0 < occurs u y l + occurs u y r)
      starts_at u low high =
          let c = whole.used u low high in
          let e = starts (l ++ r) k c.0 whole.size c.1 in
          (e.0, omega (arith, sums u e.0, rw c.2 at e.1))
