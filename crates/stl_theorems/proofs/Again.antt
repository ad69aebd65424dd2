-- A file that write_stl wrote, handed to read_stl. Assumes nothing.
use Rattle.std.specs.Prelude.{Err, Ok, Result, ℕ}
use Rattle.job.specs.Refusals.{size_numbers}
use Prim.Native.Nat.{ℕ, ◌+◌, ◌*◌, ◌<◌}
use mathlib.Core.List.{List, ◌++◌}
use mathlib.Core.Logic.{⊎_elim}
use mathlib.Core.Path.{◌≡◌, sym, ap, ap₂, ◌∙◌, subst}
use native.Mathlib.Omega.{arith}
use lib.ListN.{length, get_or, take, drop, get_or-append}
use lib.Ieee.{Float, nan, binary32, to_bits}
use Rattle.job.proofs.Told.{told, zero_not}
use Rattle.job.specs.declared.Refusal.{Refusal}
use Rattle.job.specs.declared.Refusal.TheVariants.{NoStlRoom}
use Rattle.buffers.specs.declared.Counts.{Counts}
use Rattle.buffers.specs.Outs.{Outs}
use Rattle.consistency.proofs.Means.{triangle_limit}
use Rattle.facets.specs.Facets.{stl_bytes, stl_size, count_in, listed_corners, listed_normals}
use Rattle.facets.proofs.Laws.{stl_long, long_listed_corners, long_listed_normals}
use Rattle.stl_writer.specs.Call.{file_of, WritesStl}
use Rattle.stl_writer.proofs.Demands.{only_consistent, file_in_front}
use Rattle.stl_reader.specs.Call.{Lists, lists, ListRoom, ReadsStl}
use Rattle.stl_reader.proofs.Reading.{room_or}
use Rattle.stl_reader.proofs.Demands.{always_listed, floats_and_rest, short_list_refused}
use Rattle.stl_theorems.specs.Floats.{AllF32, corner_floats, normal_floats, word_in}
use Rattle.stl_theorems.proofs.Back.{count_back, normals_back, all_corners_back, listed_normal_bits, listed_corner_bits}

module _ {n : ℕ} {o : Outs} {c : Counts} {out out' : List ℕ} (W : WritesStl 8 8 o c out (Ok n) out') where
  abbrev t : ℕ
  t = c.triangles

  file_is : take n out' ≡ stl_bytes o.positions o.triangles t
  unfolding file_of
  file_is = file_in_front W

  few : t < 4294967296
  few = omega (arith, triangle_limit o c (only_consistent W).0)

  count_is : count_in (take n out') ≡ t
  count_is = ap count_in file_is ∙ count_back o.positions o.triangles t few

  size_is : length (take n out') ≡ stl_size (count_in (take n out'))
  size_is = ap length file_is ∙ stl_long o.positions o.triangles t ∙ ap stl_size (sym count_is)

  module _ {l l' : Lists} where
    facets_are : {r : Result ℕ Refusal} → ListRoom t l → ReadsStl (take n out') l r l' → r ≡ Ok t
    facets_are R L = always_listed size_is (subst (λ (k : ℕ). ListRoom k l) (sym count_is) R) L ∙ ap Ok count_is

    as_facets : {r : Result ℕ Refusal} → ListRoom t l → ReadsStl (take n out') l r l' → ReadsStl (take n out') l (Ok t) l'
    as_facets R L = subst (λ (y : Result ℕ Refusal). ReadsStl (take n out') l y l') (facets_are R L) L

    pub listed_again : {r : Result ℕ Refusal} → AllF32 o.positions → ListRoom t l → ReadsStl (take n out') l r l'
        → (r ≡ Ok t)
        × (l' ≡ lists (corner_floats o.positions o.triangles t ++ drop (9 * t) l.corners) (normal_floats o.positions o.triangles t ++ drop (3 * t) l.normals))
    listed_again f R L = (
      facets_are R L,
      floats_and_rest (as_facets R L)
          ∙ ap₂ (λ (x y : List Float). lists (x ++ drop (9 * t) l.corners) (y ++ drop (3 * t) l.normals))
          (ap (λ (s : List ℕ). listed_corners s t) file_is ∙ all_corners_back o.positions o.triangles t f)
          (ap (λ (s : List ℕ). listed_normals s t) file_is ∙ normals_back o.positions o.triangles t f),
    )

    -- the lists as they were left, by the file's own bytes
    left : {r : Result ℕ Refusal} → ListRoom t l → ReadsStl (take n out') l r l'
        → l' ≡ lists (listed_corners (take n out') t ++ drop (9 * t) l.corners) (listed_normals (take n out') t ++ drop (3 * t) l.normals)
    left R L = floats_and_rest (as_facets R L)

    pub words_again : {i j : ℕ} {r : Result ℕ Refusal} → AllF32 o.positions → ListRoom t l → ReadsStl (take n out') l r l' → i < t
        → (j < 3 → to_bits binary32 (get_or l'.normals (3 * i + j) nan) ≡ word_in (take n out') i j)
        × (j < 9 → to_bits binary32 (get_or l'.corners (9 * i + j) nan) ≡ word_in (take n out') i (3 + j))
    words_again {i} {j} f R L h = (
      (λ b.
          ap (λ (x : Lists). to_bits binary32 (get_or x.normals (3 * i + j) nan)) (left R L)
          ∙ ap (to_bits binary32) (get_or-append (listed_normals (take n out') t) _ nan (3 * i + j) (omega (arith, long_listed_normals (take n out') t)))
          ∙ subst (λ (s : List ℕ). to_bits binary32 (get_or (listed_normals s t) (3 * i + j) nan) ≡ word_in s i j) (sym file_is)
          (listed_normal_bits o.positions o.triangles t f i j h b)),
      (λ b.
          ap (λ (x : Lists). to_bits binary32 (get_or x.corners (9 * i + j) nan)) (left R L)
          ∙ ap (to_bits binary32) (get_or-append (listed_corners (take n out') t) _ nan (9 * i + j) (omega (arith, long_listed_corners (take n out') t)))
          ∙ subst (λ (s : List ℕ). to_bits binary32 (get_or (listed_corners s t) (9 * i + j) nan) ≡ word_in s i (3 + j)) (sym file_is)
          (listed_corner_bits o.positions o.triangles t f i h j b)),
    )

    pub only_room : {q : Refusal} → ReadsStl (take n out') l (Err q) l' → q ≡ NoStlRoom t
    only_room {q} L =
        ⊎_elim
        (λ h. told q _ (ap size_numbers (short_list_refused size_is h L)) ∙ ap NoStlRoom count_is)
        (λ h. absurd (zero_not q (sym (ap (λ (m : List ℕ). get_or m 0 0) (ap size_numbers (always_listed size_is h L))))))
        (room_or (take n out') l)
