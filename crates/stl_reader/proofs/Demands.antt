-- WHAT IS PROMISED of read_stl (02 §4), as theorems over `ReadsStl` (specs/Call): of a file's bytes s, where the lent
-- lists held l, it answers r and leaves l'. What is listed of a file that write_stl wrote stands in stl_theorems.
-- Assumes nothing.
use Rattle.std.specs.Prelude.{Err, Ok, Result, ℕ}
use Rattle.job.proofs.Told.{size_told}
use Prim.Native.Nat.{ℕ, ◌*◌, ◌<◌, ◌≤◌}
use mathlib.Core.List.{List, ◌++◌}
use mathlib.Core.Path.{◌≡◌, refl, sym, ◌∙◌, subst}
use lib.ListN.{length, get_or, drop}
use Rattle.job.specs.Refusals.{number_of}
use Rattle.job.specs.declared.Refusal.{Refusal}
use Rattle.job.specs.declared.Refusal.TheVariants.{NoStlRoom, NotStl}
use Rattle.facets.specs.Facets.{stl_size, count_in, listed_corners, listed_normals}
use Rattle.stl_reader.specs.Call.{Lists, lists, ListRoom, ListShort, SameFacets, answer_for, lists_after, ReadsStl}
use Rattle.stl_reader.proofs.Reading.{Cause, cause_of, answer_of, cause_number, cause_19, cause_18}
use Rattle.stl_reader.proofs.Reading.{cause_listed, after_refusal, after_listing, count_small}
use Rattle.stl_reader.proofs.Reading.Cause.{unfit, short, fits}
use Rattle.stl_reader.proofs.Skips.{answer_same, after_same}

module _ {s : List ℕ} {l l' : Lists} where
  -- the numbers of an answer tell it: it is THE answer
  answered : {r : Result ℕ Refusal} → ReadsStl s l r l' → r ≡ answer_for s l
  answered {r} R = size_told r _ R.answer

  caused : {r : Result ℕ Refusal} → ReadsStl s l r l' → Cause s l r
  caused R = subst (Cause s l) (sym (answered R)) (cause_of s l)

  -- ==== Every file and every pair of lent lists gets a listing or one numbered refusal

  -- any two results that the promise allows are equal, in the answer and in every place of both lists
  pub list_determined : {l₂ : Lists} {r q : Result ℕ Refusal} → ReadsStl s l r l' → ReadsStl s l q l₂ → (r ≡ q) × (l' ≡ l₂)
  list_determined R Q = (size_told _ _ (R.answer ∙ sym Q.answer), R.contents ∙ sym Q.contents)

  -- a refusal is 18 or 19, and alters no lent place
  pub list_numbered : {q : Refusal} → ReadsStl s l (Err q) l' → (18 ≤ number_of q) × (number_of q ≤ 19)
  list_numbered {q} R = cause_number s l _ (caused R) q refl

  pub list_refused_nothing : {q : Refusal} → ReadsStl s l (Err q) l' → l' ≡ l
  list_refused_nothing {q} R = R.contents ∙ after_refusal s l q (answered R)

  -- ==== '19 size not 84 + 50T, then 18, with T'

  -- 19 exactly where the size is not 84 + 50T, whatever room there is
  pub not_stl_refused : {r : Result ℕ Refusal} → (length s ≡ stl_size (count_in s) → ⊥) → ReadsStl s l r l' → r ≡ Err NotStl
  not_stl_refused e R = answered R ∙ sym (answer_of s l _ (unfit e))

  pub only_not_stl : ReadsStl s l (Err NotStl) l' → length s ≡ stl_size (count_in s) → ⊥
  only_not_stl R = cause_19 s l (caused R)

  -- 18 exactly where it is, and a list is shorter than 9T or 3T; it carries T
  pub short_list_refused : {r : Result ℕ Refusal} → length s ≡ stl_size (count_in s) → ListShort (count_in s) l → ReadsStl s l r l'
      → r ≡ Err (NoStlRoom (count_in s))
  short_list_refused e h R = answered R ∙ sym (answer_of s l _ (short e h))

  pub only_for_list_room : {t : ℕ} → ReadsStl s l (Err (NoStlRoom t)) l'
      → (length s ≡ stl_size t) × (t ≡ count_in s) × ListShort t l
  only_for_list_room {t} R = cause_18 s l t (caused R)

  -- ==== 'A reader lists 9T corner floats and 3T normal floats in lent buffers'

  pub always_listed : {r : Result ℕ Refusal} → length s ≡ stl_size (count_in s) → ListRoom (count_in s) l → ReadsStl s l r l'
      → r ≡ Ok (count_in s)
  always_listed e h R = answered R ∙ sym (answer_of s l _ (fits e h))

  pub only_listed : {t : ℕ} → ReadsStl s l (Ok t) l' → (length s ≡ stl_size t) × (t ≡ count_in s) × ListRoom t l
  only_listed {t} R = cause_listed s l t (caused R)

  -- both lists whole: the floats, and then what stood there
  pub floats_and_rest : {t : ℕ} → ReadsStl s l (Ok t) l'
      → l' ≡ lists (listed_corners s t ++ drop (9 * t) l.corners) (listed_normals s t ++ drop (3 * t) l.normals)
  floats_and_rest {t} R = R.contents ∙ after_listing s l t (answered R) (only_listed R).2

  -- a count, listed or asked for, is below 2^32, since a file is bytes: a word of C holds it
  pub count_below : {t : ℕ} → ((i : ℕ) → get_or s i 0 < 256) → ReadsStl s l (Ok t) l' → t < 4294967296
  count_below b R = subst (λ (n : ℕ). n < 4294967296) (sym (only_listed R).1) (count_small s b)

  pub asked_below : {t : ℕ} → ((i : ℕ) → get_or s i 0 < 256) → ReadsStl s l (Err (NoStlRoom t)) l' → t < 4294967296
  asked_below b R = subst (λ (n : ℕ). n < 4294967296) (sym (only_for_list_room R).1) (count_small s b)

-- and one result is allowed
pub list_allowed : (s : List ℕ) (l : Lists) → ReadsStl s l (answer_for s l) (lists_after s l)
list_allowed s l = record { answer = refl; contents = refl }

-- ==== 'the reader skips header and u16'

-- files that differ in nothing else get the same answer, and leave the same lists
pub skipped : {s s₂ : List ℕ} {l l' l₂ : Lists} {r q : Result ℕ Refusal}
    → SameFacets s s₂ → ReadsStl s l r l' → ReadsStl s₂ l q l₂ → (r ≡ q) × (l' ≡ l₂)
skipped {s} {s₂} {l} S R Q =
    (answered R ∙ answer_same s s₂ S l ∙ sym (answered Q), R.contents ∙ after_same s s₂ S l ∙ sym Q.contents)
