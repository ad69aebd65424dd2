-- THE DEMANDS on the reader of PDB files, as theorems over `Reads` (specs/Call), which is the promise of `read_pdb`:
-- of a file's bytes s, where the lent buffer held out, it answers r and leaves out'. Which files are the same to the
-- reader is said in Files. Assumes nothing.
use Prim.Native.Nat.{ℕ, ◌≤◌, ◌<◌}
use Rattle.job.proofs.Told.{size_told}
use mathlib.Core.List.{List, [], ◌∷◌, ◌++◌}
use mathlib.Core.Path.{◌≡◌, refl, sym, ap, ◌∙◌, subst}
use lib.ListN.{length, take, drop, get_or}
use native.Mathlib.Omega.{arith}
use Rattle.lists.proofs.Any.{place_behind}
use Rattle.job.specs.Check.{check}
use Rattle.job.specs.Refusals.{number_of}
use Rattle.std.specs.Prelude.{Ok}
use Rattle.job.specs.declared.Refusal.{Refusal}
use Rattle.job.specs.declared.Refusal.TheVariants.{NoJobRoom}
use Rattle.pdb_records.specs.declared.AtomLine.{AtomLine}
use Rattle.pdb_file.specs.Reading.{atoms_of}
use Rattle.pdb_job.specs.Structure.{structure_of, pdb_job}
use Rattle.pdb_reader.specs.Call.{read_answer, buffer_after, Reads}
use Rattle.pdb_reader.specs.Causes.{Readable, Accepted, Short, Cause}
use Rattle.pdb_reader.specs.Causes.Cause.{all_right, at_16}
use Rattle.pdb_reader.specs.Says.{Sited, head_for, Says}
use Rattle.pdb_reader.proofs.Passes.{structure_passes}
use Rattle.pdb_reader.proofs.Says.{structure_says}
use Rattle.pdb_reader.proofs.Lines.{atoms_proper, segments_kinded}
use Rattle.pdb_reader.proofs.Reading.{cause_of, answer_of, cause_number, cause_written, cause_16}
use Rattle.pdb_reader.proofs.Reading.{after_refusal, after_job, front, behind, sited_at}
use Rattle.pdb_reader.proofs.Reading.{cause_anywhere, size_fits, no_lines}
use Rattle.std.specs.Prelude.{Result, Ok, Err}

-- ==== Every file and every lent buffer gets a job or one numbered refusal

-- the numbers of an answer tell it: it is THE answer
pub answered : {s out out' : List ℕ} {r : Result ℕ Refusal} → Reads s out r out' → read_answer s (length out) ≡ r
answered h = sym (size_told _ _ h.answer)

-- any two results that the promise allows are equal, in the answer and in every place of the buffer
pub read_determined : {s out out' out₂ : List ℕ} {r r₂ : Result ℕ Refusal}
    → Reads s out r out' → Reads s out r₂ out₂ → (r ≡ r₂) × (out' ≡ out₂)
read_determined h k = (sym (answered h) ∙ answered k, h.buffer ∙ sym k.buffer)

-- and one is allowed
pub read_allowed : (s out : List ℕ) → Reads s out (read_answer s (length out)) (buffer_after s out)
read_allowed s out = record { answer = refl; buffer = refl }

-- ==== 'Coordinates are whole thousandths, zero always +0'

-- of each ATOM line that is read all coordinates are `Sited` (specs/Says): within check 8's limits, and not -0
pub coordinates_placed : (s : List ℕ) (k : ℕ) (a : AtomLine) (t : List AtomLine)
    → drop k (atoms_of s) ≡ a ∷ t → Sited a.x × Sited a.y × Sited a.z
coordinates_placed = sited_at

-- ==== Why each answer is given

module _ {s out out' : List ℕ} where
  -- an answer is given for its cause: `Cause` (specs/Causes) is 02 §1's list
  pub caused : {r : Result ℕ Refusal} → Reads s out r out' → Cause s (length out) r
  caused h = subst (Cause s (length out)) (answered h) (cause_of s (length out))

  -- and where its cause is, it is given
  pub given_for : {r r₂ : Result ℕ Refusal} → Cause s (length out) r₂ → Reads s out r out' → r ≡ r₂
  given_for c h = sym (answered h) ∙ answer_of s (length out) _ c

  -- ==== 'The reader writes a version 1 job into a lent buffer'

  -- then no line is at fault, the counts are within the limits, there is room for the job, and n is its size
  pub accepted : {n : ℕ} → Reads s out (Ok n) out' → Accepted s (length out) n
  accepted h = cause_written s (length out) _ (caused h)

  -- n is below 2^32: a word of C holds it
  pub size_below : {n : ℕ} → Reads s out (Ok n) out' → n < 4294967296
  size_below h = size_fits (accepted h).file

  -- the whole buffer: the job, and then what stood there
  pub buffer_is : {n : ℕ} → Reads s out (Ok n) out' → out' ≡ pdb_job s ++ drop n out
  buffer_is h = h.buffer ∙ after_job s out _ (answered h) (accepted h)

  -- so the job stands at the front
  pub job_in_front : {n : ℕ} → Reads s out (Ok n) out' → take n out' ≡ pdb_job s
  job_in_front {n} h = ap (take n) (buffer_is h) ∙ front s out n (accepted h)

  -- 'Places past what a call writes stay as they were'
  pub past_job_stays : {n : ℕ} → Reads s out (Ok n) out' → drop n out' ≡ drop n out
  past_job_stays {n} h = ap (drop n) (buffer_is h) ∙ behind s out n (accepted h)

  -- the same, place by place
  pub place_stays : {n k : ℕ} → Reads s out (Ok n) out' → n ≤ k → get_or out' k 0 ≡ get_or out k 0
  place_stays {n} {k} h = place_behind n k out' out 0 (past_job_stays h)

  -- THE theorem: what the reader accepts, the builder never refuses before check 9
  pub accepted_passes : {n : ℕ} → Reads s out (Ok n) out' → check (pdb_job s) ≡ Ok (head_for (structure_of s))
  accepted_passes h = structure_passes (structure_of s) (atoms_proper s) (segments_kinded s) (accepted h).file.limits

  -- the same of the bytes that stand in the lent buffer: its first n places are what a user hands to the builder
  pub buffer_passes : {n : ℕ} → Reads s out (Ok n) out' → check (take n out') ≡ Ok (head_for (structure_of s))
  buffer_passes h = ap check (job_in_front h) ∙ accepted_passes h

  -- and with those counts the builder reads the file out of it: `Says` (specs/Says), field by field, has the counts,
  -- that each chain is visible, and of each segment and each atom what its line says, the atom's place too
  pub accepted_says : {n : ℕ} → Reads s out (Ok n) out' → Says (structure_of s) (head_for (structure_of s)) (pdb_job s)
  accepted_says h = structure_says (structure_of s) (atoms_proper s) (accepted h).file.limits

  -- the same of the bytes that stand in the lent buffer
  pub file_read : {n : ℕ} → Reads s out (Ok n) out' → Says (structure_of s) (head_for (structure_of s)) (take n out')
  file_read h = subst (Says (structure_of s) (head_for (structure_of s))) (sym (job_in_front h)) (accepted_says h)

  -- ==== 'Refusals: 12 .. 16'

  -- a refusal has one of these numbers
  pub numbered : {q : Refusal} → Reads s out (Err q) out' → (12 ≤ number_of q) × (number_of q ≤ 16)
  numbered h = cause_number s (length out) _ (caused h)

  -- 'No output buffer changes under a refusal'
  pub refused_nothing : {q : Refusal} → Reads s out (Err q) out' → out' ≡ out
  refused_nothing h = h.buffer ∙ after_refusal s out _ (answered h)

  -- ==== '16 no job room, with the size needed'

  -- 16 is given only where the file has a job of that size, and the room is short
  pub only_for_room : {n : ℕ} → Reads s out (Err (NoJobRoom n)) out' → Short s (length out) n
  only_for_room h = cause_16 s (length out) _ (caused h)

  -- and there always
  pub room_refused : {n : ℕ} {r : Result ℕ Refusal} → Readable s n → length out < n → Reads s out r out' → r ≡ Err (NoJobRoom n)
  room_refused f l = given_for (at_16 (record { file = f; lacks = l }))

  -- where there is room, the job is written
  pub room_enough : {n : ℕ} {r : Result ℕ Refusal} → Readable s n → n ≤ length out → Reads s out r out' → r ≡ Ok n
  room_enough f l = given_for (all_right (record { file = f; fits = l }))

  -- the size that 16 carries is below 2^32, too
  pub needed_below : {n : ℕ} → Reads s out (Err (NoJobRoom n)) out' → n < 4294967296
  needed_below h = size_fits (only_for_room h).file

-- ==== Two calls with one file: what the lent room decides

module _ {s out out' out₂ out₃ : List ℕ} {r : Result ℕ Refusal} where
  -- what else is wrong with a file, 12 to 15, is told in any room
  pub any_room : {q : Refusal} → Reads s out (Err q) out' → Reads s out₂ r out₃ → number_of q ≤ 15 → r ≡ Err q
  any_room h k l = given_for (cause_anywhere s (length out) (length out₂) _ (caused h) l) k

  -- who was told the size n, and lends n places or more, gets the job
  pub told_size : {n : ℕ} → Reads s out (Err (NoJobRoom n)) out' → Reads s out₂ r out₃ → n ≤ length out₂
      → r ≡ Ok n
  told_size h k l = room_enough (only_for_room h).file l k

  -- who got a job of n bytes, and lends fewer places, is refused with n
  pub less_room : {n : ℕ} → Reads s out (Ok n) out' → Reads s out₂ r out₃ → length out₂ < n
      → r ≡ Err (NoJobRoom n)
  less_room h k l = room_refused (accepted h).file l k

  -- a job that was written in some room is written, the same bytes, in any room that is no less
  pub more_room : {n : ℕ} → Reads s out (Ok n) out' → Reads s out₂ r out₃ → length out ≤ length out₂
      → (r ≡ Ok n) × (take n out₃ ≡ take n out')
  more_room {n} h k l =
      let e : r ≡ Ok n = room_enough (accepted h).file (omega (arith, (accepted h).fits)) k in
      (e, job_in_front (subst (λ (x : Result ℕ Refusal). Reads s out₂ x out₃) e k) ∙ sym (job_in_front h))

-- ==== An example

-- an empty file gives the 13-byte job
pub empty_file : pdb_job [] ≡ 0 ∷ 0 ∷ 0 ∷ 9 ∷ 1 ∷ 0 ∷ 0 ∷ 0 ∷ 0 ∷ 0 ∷ 0 ∷ 0 ∷ 0 ∷ []
empty_file = no_lines
