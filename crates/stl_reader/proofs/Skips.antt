-- The header and the two bytes behind each facet are skipped: files that differ there alone are listed alike. Assumes nothing.
use Rattle.std.specs.Prelude.{Result, ℕ}
use Rattle.job.specs.declared.Refusal.{Refusal}
use Prim.Native.Nat.{ℕ, ◌+◌, ◌<◌}
use mathlib.Core.List.{List}
use mathlib.Core.Path.{◌≡◌, refl, sym, ap, ◌∙◌}
use native.Mathlib.Omega.{arith}
use lib.ListN.{get_or}
use Rattle.lists.proofs.Puts.{upto_same}
use Rattle.vectors.specs.Vec.{floats}
use Rattle.little.specs.Little.{le_vec_at}
use Rattle.little.proofs.Laws.{le32_same, vec_same}
use Rattle.facets.specs.Facets.{count_in, facet_place, one_normal, one_corners, listed_normals, listed_corners}
use Rattle.stl_reader.specs.Call.{Lists, SameFacets, is_stl, list_answer, answer_for, list_by, lists_after}
use Rattle.stl_reader.proofs.Reading.{Cause, cause_of}
use Rattle.stl_reader.proofs.Reading.Cause.{unfit, short, fits}

module _ (s s₂ : List ℕ) (S : SameFacets s s₂) where
  pub count_same : count_in s ≡ count_in s₂
  count_same = le32_same s s₂ 80 80 S.count

  pub answer_same : (l : Lists) → answer_for s l ≡ answer_for s₂ l
  unfolding list_answer is_stl
  answer_same l = rw (S.size, count_same)

  -- the vector k bytes behind the beginning of facet i
  vector : (i k : ℕ) → i < count_in s → k + 12 < 49 → le_vec_at s (facet_place i + k) ≡ le_vec_at s₂ (facet_place i + k)
  vector i k h b =
      vec_same s s₂ (facet_place i + k) (facet_place i + k)
      (λ q m.
      let e : facet_place i + k + q ≡ facet_place i + (k + q) = omega arith in
      ap (λ (j : ℕ). get_or s j 0) e ∙ S.facets i (k + q) h (omega arith) ∙ ap (λ (j : ℕ). get_or s₂ j 0) (sym e))

  first : (i : ℕ) → i < count_in s → le_vec_at s (facet_place i) ≡ le_vec_at s₂ (facet_place i)
  first i h = vec_same s s₂ (facet_place i) (facet_place i) (λ q m. S.facets i q h (omega arith))

  pub normals_same : listed_normals s (count_in s) ≡ listed_normals s₂ (count_in s)
  unfolding listed_normals one_normal
  normals_same = upto_same (one_normal s) (one_normal s₂) (count_in s) (λ i h. ap floats (first i h))

  pub corners_same : listed_corners s (count_in s) ≡ listed_corners s₂ (count_in s)
  unfolding listed_corners one_corners
  corners_same =
      upto_same (one_corners s) (one_corners s₂) (count_in s)
      (λ i h. rw (vector i 12 h (omega arith), vector i 24 h (omega arith), vector i 36 h (omega arith)))

  -- the lists after either, by the cause of the answer
  by_cause : (l : Lists) (r : Result ℕ Refusal) → Cause s l r → list_by r s l ≡ list_by r s₂ l
  by_cause l _ (unfit e) = refl
  by_cause l _ (short e h) = refl
  by_cause l _ (fits e h) = rw (corners_same, normals_same)

  pub after_same : (l : Lists) → lists_after s l ≡ lists_after s₂ l
  unfolding lists_after
  after_same l = by_cause l (answer_for s l) (cause_of s l) ∙ ap (λ (r : Result ℕ Refusal). list_by r s₂ l) (answer_same l)
