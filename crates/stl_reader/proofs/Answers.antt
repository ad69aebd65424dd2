-- Each answer of read_stl keeps its promise. Assumes nothing.
use Rattle.std.specs.Prelude.{Err, Ok, Result, ℕ}
use Rattle.job.specs.Refusals.{size_numbers}
use Prim.Native.Nat.{ℕ, ◌*◌, ◌<◌, ◌≤◌}
use mathlib.Core.Bool.{true, false}
use mathlib.Core.List.{List}
use mathlib.Core.Path.{◌≡◌, sym, ap, ◌∙◌}
use native.Mathlib.Omega.{arith}
use lib.ListN.{length}
use lib.Dec.{eqb}
use borrow.Author.Tests.{lt-ltb, le-ltb, eq-eqb, ne_eqb}
use Rattle.job.specs.declared.Refusal.{Refusal}
use Rattle.job.specs.declared.Refusal.TheVariants.{NoStlRoom, NotStl}
use Rattle.facets.specs.Facets.{stl_size, count_in}
use Rattle.stl_reader.specs.Call.{Lists, is_stl, few_places, list_answer, answer_for, list_by, lists_after, ReadsStl}

-- the promise, of the answer itself
pub by_answer : (s : List ℕ) (l : Lists) (r : Result ℕ Refusal) (l' : Lists) → r ≡ answer_for s l → l' ≡ list_by r s l → ReadsStl s l r l'
unfolding lists_after
by_answer s l r l' e w = record { answer = ap size_numbers e; contents = w ∙ ap (λ (x : Result ℕ Refusal). list_by x s l) e }

module _ (s : List ℕ) (l : Lists) where
  -- under 84 bytes
  pub small : length s < 84 → Err NotStl ≡ answer_for s l
  unfolding list_answer is_stl
  small h = rw (ne_eqb (length s) (stl_size (count_in s)) (λ e. omega arith))

  module _ (t : ℕ) (c : t ≡ count_in s) where
    pub not_stl : (length s ≡ stl_size t → ⊥) → Err NotStl ≡ answer_for s l
    unfolding list_answer is_stl
    not_stl h = rw (ne_eqb (length s) (stl_size (count_in s)) (λ e. h (e ∙ ap stl_size (sym c))))

    few_corners : length l.corners < 9 * t → few_places t (length l.corners) (length l.normals) ≡ true
    unfolding few_places
    few_corners h = rw (lt-ltb (length l.corners) (9 * t) h)

    few_normals : 9 * t ≤ length l.corners → length l.normals < 3 * t → few_places t (length l.corners) (length l.normals) ≡ true
    unfolding few_places
    few_normals g h = rw (le-ltb (length l.corners) (9 * t) g, lt-ltb (length l.normals) (3 * t) h)

    enough : 9 * t ≤ length l.corners → 3 * t ≤ length l.normals → few_places t (length l.corners) (length l.normals) ≡ false
    unfolding few_places
    enough g h = rw (le-ltb (length l.corners) (9 * t) g, le-ltb (length l.normals) (3 * t) h)

    module _ (size : length s ≡ stl_size t) where
      is : eqb (length s) (stl_size (count_in s)) ≡ true
      is = eq-eqb (length s) (stl_size (count_in s)) (size ∙ ap stl_size c)

      pub no_room : few_places t (length l.corners) (length l.normals) ≡ true → Err (NoStlRoom t) ≡ answer_for s l
      unfolding list_answer is_stl
      no_room f = rw (is, ← c, f)

      pub room : few_places t (length l.corners) (length l.normals) ≡ false → Ok t ≡ answer_for s l
      unfolding list_answer is_stl
      room f = rw (is, ← c, f)

      pub short_corners : length l.corners < 9 * t → Err (NoStlRoom t) ≡ answer_for s l
      short_corners h = no_room (few_corners h)

      pub short_normals : 9 * t ≤ length l.corners → length l.normals < 3 * t → Err (NoStlRoom t) ≡ answer_for s l
      short_normals g h = no_room (few_normals g h)

      pub listed : 9 * t ≤ length l.corners → 3 * t ≤ length l.normals → Ok t ≡ answer_for s l
      listed g h = room (enough g h)
