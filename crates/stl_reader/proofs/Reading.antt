-- What an answer of read_stl says of its causes, and of the lent lists. Assumes nothing.
use Rattle.std.specs.Prelude.{Err, Ok, Result, ℕ}
use Prim.Native.Nat.{ℕ, ◌*◌, ◌<◌, ◌≤◌}
use mathlib.Core.Bool.{Bool, true, false}
use mathlib.Core.Logic.{◌⊎◌, ⊎_elim, inl, inr}
use mathlib.Core.List.{List, ◌++◌}
use mathlib.Core.Path.{◌≡◌, refl, sym, ap, subst}
use native.Mathlib.Omega.{arith}
use lib.ListN.{length, get_or, drop}
use lib.Dec.{ltb, eqb}
use borrow.Author.Tests.{ltb-true, ltb-false, eqb-true, eqb-false}
use Rattle.lists.proofs.Puts.{put_front}
use Rattle.job.specs.Refusals.{number_of, size_numbers}
use Rattle.job.specs.declared.Refusal.{Refusal}
use Rattle.job.specs.declared.Refusal.TheVariants.{NoStlRoom, NotStl}
use Rattle.job.proofs.Told.{told, zero_not}
use Rattle.little.proofs.Laws.{le32_below}
use Rattle.facets.specs.Facets.{stl_size, count_in, listed_corners, listed_normals}
use Rattle.facets.proofs.Laws.{long_listed_corners, long_listed_normals}
use Rattle.stl_reader.specs.Call.{Lists, lists, ListRoom, ListShort, answer_for, lists_after}
use Rattle.stl_reader.proofs.Answers.{not_stl, short_corners, short_normals, listed}

-- ---- the three answers, each with its cause
pub data Cause (s : List ℕ) (l : Lists) : Result ℕ Refusal → Type 0 where
  unfit : (length s ≡ stl_size (count_in s) → ⊥) → Cause s l (Err NotStl)
  short : length s ≡ stl_size (count_in s) → ListShort (count_in s) l → Cause s l (Err (NoStlRoom (count_in s)))
  fits : length s ≡ stl_size (count_in s) → ListRoom (count_in s) l → Cause s l (Ok (count_in s))

module _ (s : List ℕ) (l : Lists) where
  abbrev t : ℕ
  t = count_in s

  at_short : length s ≡ stl_size t → ListShort t l → Err (NoStlRoom t) ≡ answer_for s l
  at_short e h =
      ⊎_elim (λ a. short_corners s l t refl e a)
      (λ b. go (ltb (length l.corners) (9 * t)) refl b)
      h
    where
      go : (x : Bool) → ltb (length l.corners) (9 * t) ≡ x → length l.normals < 3 * t → Err (NoStlRoom t) ≡ answer_for s l
      go true q b = short_corners s l t refl e (ltb-true (length l.corners) (9 * t) q)
      go false q b = short_normals s l t refl e (ltb-false (length l.corners) (9 * t) q) b

  pub answer_of : (r : Result ℕ Refusal) → Cause s l r → r ≡ answer_for s l
  answer_of _ (unfit e) = not_stl s l t refl e
  answer_of _ (short e h) = at_short e h
  answer_of _ (fits e h) = listed s l t refl e h.corners h.normals

  pub room_or : ListShort t l ⊎ ListRoom t l
  room_or = go (ltb (length l.corners) (9 * t)) refl (ltb (length l.normals) (3 * t)) refl
    where
      go : (x : Bool) → ltb (length l.corners) (9 * t) ≡ x → (y : Bool) → ltb (length l.normals) (3 * t) ≡ y → ListShort t l ⊎ ListRoom t l
      go true p y q = inl (inl (ltb-true (length l.corners) (9 * t) p))
      go false p true q = inl (inr (ltb-true (length l.normals) (3 * t) q))
      go false p false q = inr (record { corners = ltb-false (length l.corners) (9 * t) p; normals = ltb-false (length l.normals) (3 * t) q })

  pub cause_of : Cause s l (answer_for s l)
  cause_of = go (eqb (length s) (stl_size t)) refl
    where
      by : (r : Result ℕ Refusal) → Cause s l r → Cause s l (answer_for s l)
      by r c = subst (Cause s l) (answer_of r c) c

      go : (b : Bool) → eqb (length s) (stl_size t) ≡ b → Cause s l (answer_for s l)
      go true e = let q = eqb-true (length s) (stl_size t) e in ⊎_elim (λ h. by _ (short q h)) (λ h. by _ (fits q h)) room_or
      go false e = by _ (unfit (eqb-false (length s) (stl_size t) e))

  pub cause_number : (r : Result ℕ Refusal) → Cause s l r → (q : Refusal) → r ≡ Err q → (18 ≤ number_of q) × (number_of q ≤ 19)
  cause_number _ (unfit e) q x = subst (λ (n : ℕ). (18 ≤ n) × (n ≤ 19)) (ap (λ (m : List ℕ). get_or m 0 0) (ap size_numbers x)) (omega arith, omega arith)
  cause_number _ (short e h) q x = subst (λ (n : ℕ). (18 ≤ n) × (n ≤ 19)) (ap (λ (m : List ℕ). get_or m 0 0) (ap size_numbers x)) (omega arith, omega arith)
  cause_number _ (fits e h) q x = absurd (zero_not q (ap (λ (m : List ℕ). get_or m 0 0) (ap size_numbers x)))

  pub cause_19 : Cause s l (Err NotStl) → length s ≡ stl_size (count_in s) → ⊥
  cause_19 (unfit e) = e

  pub cause_18 : (n : ℕ) → Cause s l (Err (NoStlRoom n)) → (length s ≡ stl_size n) × (n ≡ count_in s) × ListShort n l
  cause_18 _ (short e h) = (e, refl, h)

  pub cause_listed : (n : ℕ) → Cause s l (Ok n) → (length s ≡ stl_size n) × (n ≡ count_in s) × ListRoom n l
  cause_listed _ (fits e h) = (e, refl, h)

  -- ---- the lent lists after an answer
  pub after_refusal : (q : Refusal) → Err q ≡ answer_for s l → lists_after s l ≡ l
  unfolding lists_after
  after_refusal q e = rw (← e)

  pub after_listing : (n : ℕ) → Ok n ≡ answer_for s l → ListRoom n l
      → lists_after s l ≡ lists (listed_corners s n ++ drop (9 * n) l.corners) (listed_normals s n ++ drop (3 * n) l.normals)
  unfolding lists_after
  after_listing n e h =
      rw (← e) (rw (
        put_front l.corners (listed_corners s n) (9 * n) (long_listed_corners s n) h.corners,
        put_front l.normals (listed_normals s n) (3 * n) (long_listed_normals s n) h.normals,
      ))

-- a count in four bytes is below 2^32
pub count_small : (s : List ℕ) → ((i : ℕ) → get_or s i 0 < 256) → count_in s < 4294967296
count_small s b = le32_below s 80 b
