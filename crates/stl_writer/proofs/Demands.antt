-- WHAT IS PROMISED of write_stl (02 §4), as theorems over `WritesStl` (specs/Call), over p sides and d divisions: of
-- the mesh buffers o, the counts c and lent bytes that held out, it answers r and leaves out'. Assumes nothing.
use Rattle.std.specs.Prelude.{Err, Ok, Result, ℕ}
use Rattle.job.proofs.Told.{size_told}
use Prim.Native.Nat.{ℕ, ◌<◌, ◌≤◌}
use mathlib.Core.Bool.{true, false}
use mathlib.Core.List.{List, ◌++◌}
use mathlib.Core.Path.{◌≡◌, refl, sym, ap, ◌∙◌, subst}
use native.Mathlib.Omega.{arith}
use lib.ListN.{length, take, drop}
use Rattle.edges.specs.Tube.{triangles}
use Rattle.job.specs.Refusals.{number_of}
use Rattle.job.specs.declared.Refusal.{Refusal}
use Rattle.job.specs.declared.Refusal.TheVariants.{Inconsistent, NoStlRoom}
use Rattle.buffers.specs.declared.Counts.{Counts}
use Rattle.buffers.specs.Outs.{Outs}
use Rattle.consistency.specs.Consistent.{consistent}
use Rattle.facets.specs.Facets.{stl_size}
use Rattle.stl_writer.specs.Call.{file_of, write_answer, bytes_after, WritesStl}
use Rattle.stl_writer.proofs.Reading.{Cause, cause_of, answer_of, cause_number, cause_17, cause_18}
use Rattle.stl_writer.proofs.Reading.Cause.{unfit, short, fits}
use Rattle.stl_writer.proofs.Reading.{cause_file, after_refusal, after_file, front, behind, small_size}

-- 'Two residues give 7,284 bytes'
pub two_residues_lem : stl_size (triangles 8 8 2) ≡ 7284
unfolding triangles
two_residues_lem = refl

module _ {p d : ℕ} {o : Outs} {c : Counts} {out out' : List ℕ} where
  -- the numbers of an answer tell it: it is THE answer
  answered : {r : Result ℕ Refusal} → WritesStl p d o c out r out' → r ≡ write_answer p d o c (length out)
  answered {r} W = size_told r _ W.answer

  caused : {r : Result ℕ Refusal} → WritesStl p d o c out r out' → Cause p d o c (length out) r
  caused W = subst (Cause p d o c (length out)) (sym (answered W)) (cause_of p d o c (length out))

  -- ==== Every set of buffers and counts gets a file or one numbered refusal

  -- any two results that the promise allows are equal, in the answer and in every lent byte
  pub write_determined : {out₂ : List ℕ} {r q : Result ℕ Refusal}
      → WritesStl p d o c out r out' → WritesStl p d o c out q out₂ → (r ≡ q) × (out' ≡ out₂)
  write_determined W X = (size_told _ _ (W.answer ∙ sym X.answer), W.bytes ∙ sym X.bytes)

  -- a refusal is 17 or 18, and alters no lent byte
  pub write_numbered : {q : Refusal} → WritesStl p d o c out (Err q) out' → (17 ≤ number_of q) × (number_of q ≤ 18)
  write_numbered {q} W = cause_number p d o c (length out) _ (caused W) q refl

  pub write_refused_nothing : {q : Refusal} → WritesStl p d o c out (Err q) out' → out' ≡ out
  write_refused_nothing {q} W = W.bytes ∙ after_refusal p d o c out q (answered W)

  -- ==== '17 mesh buffers inconsistent, then 18 no room, with the size'

  -- 17 exactly where the buffers are inconsistent, whatever room there is
  pub inconsistent_refused : {r : Result ℕ Refusal} → consistent p d o c ≡ false → WritesStl p d o c out r out'
      → r ≡ Err Inconsistent
  inconsistent_refused e W = answered W ∙ sym (answer_of p d o c (length out) _ (unfit e))

  pub only_inconsistent : WritesStl p d o c out (Err Inconsistent) out' → consistent p d o c ≡ false
  only_inconsistent W = cause_17 p d o c (length out) (caused W)

  -- 18 exactly where they are consistent and the lent bytes are fewer than 84 + 50T, which it carries
  pub short_refused : {r : Result ℕ Refusal} → consistent p d o c ≡ true → length out < stl_size c.triangles → WritesStl p d o c out r out'
      → r ≡ Err (NoStlRoom (stl_size c.triangles))
  short_refused e h W = answered W ∙ sym (answer_of p d o c (length out) _ (short e h))

  pub only_for_stl_room : {n : ℕ} → WritesStl p d o c out (Err (NoStlRoom n)) out'
      → (consistent p d o c ≡ true) × (n ≡ stl_size c.triangles) × (length out < n)
  only_for_stl_room {n} W = cause_18 p d o c (length out) n (caused W)

  -- ==== 'Write an accepted mesh': else the file is written, and what it says of itself is so

  pub always_written : {r : Result ℕ Refusal} → consistent p d o c ≡ true → stl_size c.triangles ≤ length out → WritesStl p d o c out r out'
      → r ≡ Ok (stl_size c.triangles)
  always_written e h W = answered W ∙ sym (answer_of p d o c (length out) _ (fits e h))

  pub only_consistent : {n : ℕ} → WritesStl p d o c out (Ok n) out'
      → (consistent p d o c ≡ true) × (n ≡ stl_size c.triangles) × (n ≤ length out)
  only_consistent {n} W = cause_file p d o c (length out) n (caused W)

  -- the whole buffer: the file, and then what stood there
  pub file_and_rest : {n : ℕ} → WritesStl p d o c out (Ok n) out' → out' ≡ file_of o c ++ drop n out
  file_and_rest {n} W = let k = only_consistent W in W.bytes ∙ after_file p d o c out n (answered W) k.1 k.2

  pub file_in_front : {n : ℕ} → WritesStl p d o c out (Ok n) out' → take n out' ≡ file_of o c
  file_in_front {n} W = ap (take n) (file_and_rest W) ∙ front o c n _ (only_consistent W).1

  front_as : {n : ℕ} {r : Result ℕ Refusal} → r ≡ Ok n → WritesStl p d o c out r out' → take n out' ≡ file_of o c
  front_as e W = file_in_front (subst (λ (y : Result ℕ Refusal). WritesStl p d o c out y out') e W)

  pub past_file_stays : {n : ℕ} → WritesStl p d o c out (Ok n) out' → drop n out' ≡ drop n out
  past_file_stays {n} W = ap (drop n) (file_and_rest W) ∙ behind o c n _ (only_consistent W).1

still_written : {p d n : ℕ} {o : Outs} {c : Counts} {out out' out₂ out₃ : List ℕ} {r : Result ℕ Refusal}
    → WritesStl p d o c out (Ok n) out' → length out ≤ length out₂ → WritesStl p d o c out₂ r out₃ → r ≡ Ok n
still_written W h X =
    let k = only_consistent W in
    always_written k.0 (omega (arith, k.1, k.2)) X ∙ ap Ok (sym k.1)

-- and one result is allowed
pub write_allowed : (p d : ℕ) (o : Outs) (c : Counts) (out : List ℕ)
    → WritesStl p d o c out (write_answer p d o c (length out)) (bytes_after p d o c out)
write_allowed p d o c out = record { answer = refl; bytes = refl }

-- a file that is written in some room is written, the same bytes, in any that is no less
pub longer_same : {p d n : ℕ} {o : Outs} {c : Counts} {out out' out₂ out₃ : List ℕ} {r : Result ℕ Refusal}
    → WritesStl p d o c out (Ok n) out' → length out ≤ length out₂ → WritesStl p d o c out₂ r out₃
    → (r ≡ Ok n) × (take n out₃ ≡ take n out')
longer_same W h X = let e = still_written W h X in (e, front_as e X ∙ sym (file_in_front W))

-- ==== a size, written or needed, is below 2^32: a word of C holds it

pub file_size_below : {o : Outs} {c : Counts} {out out' : List ℕ} {n : ℕ}
    → WritesStl 8 8 o c out (Ok n) out' → n < 4294967296
file_size_below {o} {c} W = small_size o c (only_consistent W).0 (only_consistent W).1

pub needed_below : {o : Outs} {c : Counts} {out out' : List ℕ} {n : ℕ}
    → WritesStl 8 8 o c out (Err (NoStlRoom n)) out' → n < 4294967296
needed_below {o} {c} W = small_size o c (only_for_stl_room W).0 (only_for_stl_room W).1
