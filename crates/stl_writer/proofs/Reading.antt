-- What an answer of write_stl says of its causes, and of the lent bytes. Assumes nothing.
use Rattle.std.specs.Prelude.{Err, Ok, Result, ℕ}
use Prim.Native.Nat.{ℕ, ◌<◌, ◌≤◌}
use mathlib.Core.Bool.{Bool, true, false}
use mathlib.Core.List.{List, ◌++◌}
use mathlib.Core.Path.{◌≡◌, refl, sym, ap, ◌∙◌, subst}
use native.Mathlib.Omega.{arith}
use lib.ListN.{length, get_or, take, drop}
use lib.Seq.{take_at, drop_at}
use lib.Dec.{ltb}
use borrow.Author.Tests.{ltb-true, ltb-false}
use Rattle.lists.proofs.Puts.{put_front}
use Rattle.job.specs.Refusals.{number_of, size_numbers}
use Rattle.job.specs.declared.Refusal.{Refusal}
use Rattle.job.specs.declared.Refusal.TheVariants.{Inconsistent, NoStlRoom}
use Rattle.job.proofs.Told.{told, zero_not}
use Rattle.buffers.specs.declared.Counts.{Counts}
use Rattle.buffers.specs.Outs.{Outs}
use Rattle.consistency.specs.Consistent.{consistent}
use Rattle.consistency.proofs.Means.{triangle_limit}
use Rattle.facets.specs.Facets.{stl_size}
use Rattle.facets.proofs.Laws.{stl_long}
use Rattle.stl_writer.specs.Call.{file_of, write_answer, bytes_after}
use Rattle.stl_writer.proofs.Answers.{at_17, at_18, at_file}

-- ---- the three answers, each with its cause
pub data Cause (p d : ℕ) (o : Outs) (c : Counts) (room : ℕ) : Result ℕ Refusal → Type 0 where
  unfit : consistent p d o c ≡ false → Cause p d o c room (Err Inconsistent)
  short : consistent p d o c ≡ true → room < stl_size c.triangles → Cause p d o c room (Err (NoStlRoom (stl_size c.triangles)))
  fits : consistent p d o c ≡ true → stl_size c.triangles ≤ room → Cause p d o c room (Ok (stl_size c.triangles))

module _ (p d : ℕ) (o : Outs) (c : Counts) (room : ℕ) where
  pub cause_of : Cause p d o c room (write_answer p d o c room)
  cause_of = go (consistent p d o c) refl
    where
      room_of : (b : Bool) → ltb room (stl_size c.triangles) ≡ b → consistent p d o c ≡ true → Cause p d o c room (write_answer p d o c room)
      room_of true h e = let l = ltb-true room (stl_size c.triangles) h in subst (Cause p d o c room) (at_18 p d o c room e l) (short e l)
      room_of false h e = let l = ltb-false room (stl_size c.triangles) h in subst (Cause p d o c room) (at_file p d o c room e l) (fits e l)

      go : (b : Bool) → consistent p d o c ≡ b → Cause p d o c room (write_answer p d o c room)
      go true e = room_of (ltb room (stl_size c.triangles)) refl e
      go false e = subst (Cause p d o c room) (at_17 p d o c room e) (unfit e)

  pub answer_of : (r : Result ℕ Refusal) → Cause p d o c room r → r ≡ write_answer p d o c room
  answer_of _ (unfit e) = at_17 p d o c room e
  answer_of _ (short e h) = at_18 p d o c room e h
  answer_of _ (fits e h) = at_file p d o c room e h

  pub cause_number : (r : Result ℕ Refusal) → Cause p d o c room r → (q : Refusal) → r ≡ Err q → (17 ≤ number_of q) × (number_of q ≤ 18)
  cause_number _ (unfit e) q x = subst (λ (n : ℕ). (17 ≤ n) × (n ≤ 18)) (ap (λ (l : List ℕ). get_or l 0 0) (ap size_numbers x)) (omega arith, omega arith)
  cause_number _ (short e h) q x = subst (λ (n : ℕ). (17 ≤ n) × (n ≤ 18)) (ap (λ (l : List ℕ). get_or l 0 0) (ap size_numbers x)) (omega arith, omega arith)
  cause_number _ (fits e h) q x = absurd (zero_not q (ap (λ (l : List ℕ). get_or l 0 0) (ap size_numbers x)))

  pub cause_17 : Cause p d o c room (Err Inconsistent) → consistent p d o c ≡ false
  cause_17 (unfit e) = e

  pub cause_18 : (n : ℕ) → Cause p d o c room (Err (NoStlRoom n)) → (consistent p d o c ≡ true) × (n ≡ stl_size c.triangles) × (room < n)
  cause_18 _ (short e h) = (e, refl, h)

  pub cause_file : (n : ℕ) → Cause p d o c room (Ok n) → (consistent p d o c ≡ true) × (n ≡ stl_size c.triangles) × (n ≤ room)
  cause_file _ (fits e h) = (e, refl, h)

-- ---- the lent bytes after an answer
pub file_long : (o : Outs) (c : Counts) → length (file_of o c) ≡ stl_size c.triangles
unfolding file_of
file_long o c = stl_long o.positions o.triangles c.triangles

module _ (p d : ℕ) (o : Outs) (c : Counts) (out : List ℕ) where
  pub after_refusal : (q : Refusal) → Err q ≡ write_answer p d o c (length out) → bytes_after p d o c out ≡ out
  unfolding bytes_after
  after_refusal q e = rw (← e)

  pub after_file : (n : ℕ) → Ok n ≡ write_answer p d o c (length out) → n ≡ stl_size c.triangles → n ≤ length out → bytes_after p d o c out ≡ file_of o c ++ drop n out
  unfolding bytes_after
  after_file n e s h = rw (← e) (put_front out (file_of o c) n (file_long o c ∙ sym s) h)

-- the file at the front, and what stands behind it
module _ (o : Outs) (c : Counts) (n : ℕ) (rest : List ℕ) (s : n ≡ stl_size c.triangles) where
  pub front : take n (file_of o c ++ rest) ≡ file_of o c
  front = take_at (file_of o c) rest n (file_long o c ∙ sym s)

  pub behind : drop n (file_of o c ++ rest) ≡ rest
  behind = drop_at (file_of o c) rest n (file_long o c ∙ sym s)

-- sizes of consistent buffers are words
pub small_size : (o : Outs) (c : Counts) {n : ℕ} → consistent 8 8 o c ≡ true → n ≡ stl_size c.triangles → n < 4294967296
small_size o c e s = omega (arith, triangle_limit o c e)
