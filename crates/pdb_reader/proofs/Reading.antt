-- The lemmas of Demands: over the definitions of specs/Call, answer by answer. Assumes nothing.
use Prim.Native.Nat.{ℕ, ◌<◌, ◌≤◌}
use mathlib.Core.Bool.{Bool, true, false, cond}
use mathlib.Core.Path.{◌≡◌, refl, sym, ap, ◌∙◌}
use mathlib.Core.List.{List, [], ◌∷◌, ◌++◌, map}
use native.Mathlib.Omega.{arith}
use lib.Dec.{ltb}
use lib.ListN.{length, take, drop, get_or, length-map}
use lib.Seq.{take_at, drop_at}
use borrow.Author.Tests.{ltb-true, ltb-false, lt-ltb, le-ltb}
use Rattle.lists.proofs.Puts.{put_front}
use Rattle.job.specs.Refusals.{number_of, size_numbers}
use Rattle.job.specs.declared.Refusal.{Refusal}
use Rattle.job.specs.declared.Refusal.TheVariants.{PastLimits, NoJobRoom}
use Rattle.job.proofs.Told.{told, zero_not}
use Rattle.appearance.specs.Order.{distinct}
use Rattle.numbers.specs.Bytes.{u16, u32}
use Rattle.job_writer.specs.Job.{flat, head_bytes, job_bytes, atom_bytes}
use Rattle.job_writer.proofs.Fine.{Placed}
use Rattle.job_writer.proofs.Laws.{wide_atom}
use Rattle.job_writer.proofs.Readback.{job_size_lem}
use Rattle.pdb_lines.specs.Lines.{lines}
use Rattle.pdb_records.specs.declared.AtomLine.{AtomLine}
use Rattle.pdb_file.specs.Reading.{reading, atoms, segments, atoms_of, segments_of}
use Rattle.pdb_file.specs.Faults.{fault_in}
use Rattle.pdb_file.specs.declared.Fault.{Fault}
use Rattle.pdb_file.specs.declared.Fault.TheVariants.{LineShort, LineWrong, NoResidue}
use Rattle.pdb_job.specs.Structure.{to_atom, to_segment, chains_of, residues_of, structure_size, structure_job, structure_of, pdb_job}
use Rattle.pdb_reader.specs.Call.{past_limits, by_fault, read_checks, read_answer, read_by, buffer_after}
use Rattle.pdb_reader.specs.Causes.{Readable, Accepted, Short, Cause}
use Rattle.pdb_reader.specs.Causes.Cause.{all_right, at_12, at_13, at_14, at_15, at_16}
use Rattle.pdb_reader.specs.Says.{NotMinusZero, Sited}
use Rattle.pdb_reader.proofs.Answers.{limited}
use Rattle.pdb_reader.proofs.Passes.{Proper, every_at}
use Rattle.pdb_reader.proofs.Lines.{atoms_proper}
use Rattle.std.specs.Prelude.{Result, Ok, Err, Option, Some, None}

-- ---- each answer has its cause, and one cause one answer
module _ (s : List ℕ) (room : ℕ) where
  abbrev size : ℕ
  size = structure_size (structure_of s)

  pub cause_of : Cause s room (read_answer s room)
  unfolding read_answer read_checks
  cause_of = go (fault_in s) refl
    where
      checks : fault_in s ≡ None → (p b : Bool) → past_limits (structure_of s) ≡ p → ltb room size ≡ b
          → Cause s room (cond p (Err PastLimits) (cond b (Err (NoJobRoom size)) (Ok size)))
      checks f true b e q = at_15 (record { clean = f; limits = e })
      checks f false true e q = at_16 (record { file = record { clean = f; limits = e; size = refl }; lacks = ltb-true room size q })
      checks f false false e q = all_right (record { file = record { clean = f; limits = e; size = refl }; fits = ltb-false room size q })

      go : (f : Option Fault) → fault_in s ≡ f → Cause s room (by_fault f (read_checks (structure_of s) room))
      go None e = checks e (past_limits (structure_of s)) (ltb room size) refl refl
      go (Some (LineShort n)) e = at_12 e
      go (Some (LineWrong n)) e = at_13 e
      go (Some (NoResidue n)) e = at_14 e

  pub answer_of : (r : Result ℕ Refusal) → Cause s room r → read_answer s room ≡ r
  unfolding read_answer read_checks
  answer_of r (all_right a) = rw (a.file.clean, a.file.limits, le-ltb room size (omega (arith, a.fits, a.file.size))) (ap Ok (sym a.file.size))
  answer_of r (at_12 e) = rw e
  answer_of r (at_13 e) = rw e
  answer_of r (at_14 e) = rw e
  answer_of r (at_15 p) = rw (p.clean, p.limits)
  answer_of r (at_16 h) =
      rw (h.file.clean, h.file.limits, lt-ltb room size (omega (arith, h.lacks, h.file.size))) (ap (λ (k : ℕ). Err (NoJobRoom k)) (sym h.file.size))

  -- 02 §1's numbers, 12 to 16
  pub cause_number : (q : Refusal) → Cause s room (Err q) → (12 ≤ number_of q) × (number_of q ≤ 16)
  cause_number q (at_12 e) = (omega arith, omega arith)
  cause_number q (at_13 e) = (omega arith, omega arith)
  cause_number q (at_14 e) = (omega arith, omega arith)
  cause_number q (at_15 p) = (omega arith, omega arith)
  cause_number q (at_16 h) = (omega arith, omega arith)

  pub cause_written : (n : ℕ) → Cause s room (Ok n) → Accepted s room n
  cause_written n (all_right a) = a

  pub cause_16 : (n : ℕ) → Cause s room (Err (NoJobRoom n)) → Short s room n
  cause_16 n (at_16 h) = h

-- a cause of 12 to 15 is one in any room
pub cause_anywhere : (s : List ℕ) (room room₂ : ℕ) (q : Refusal) → Cause s room (Err q) → number_of q ≤ 15 → Cause s room₂ (Err q)
cause_anywhere s room room₂ q (at_12 e) l = at_12 e
cause_anywhere s room room₂ q (at_13 e) l = at_13 e
cause_anywhere s room room₂ q (at_14 e) l = at_14 e
cause_anywhere s room room₂ q (at_15 p) l = at_15 p
cause_anywhere s room room₂ q (at_16 h) l = absurd (omega (arith, l))

-- ---- a job's size is below 2^32: it is 13 + C + 9 S + 33 A, where C is at most 255, S and A at most 65,535
pub size_fits : {s : List ℕ} {n : ℕ} → Readable s n → n < 4294967296
size_fits {s} f =
    let l = limited (structure_of s) f.limits in
    omega (arith, f.size, l.chains, l.segments_are, l.atoms)

-- ---- the buffer
pub job_long : (s : List ℕ) → length (pdb_job s) ≡ structure_size (structure_of s)
unfolding structure_job
job_long s =
    job_size_lem 1 33 atom_bytes wide_atom (chains_of (atoms_of s)) (residues_of (atoms_of s)) (map (to_segment (atoms_of s)) (segments_of s)) (map (to_atom (atoms_of s)) (atoms_of s))
    ∙ rw (length-map (segments_of s) (to_segment (atoms_of s)), length-map (atoms_of s) (to_atom (atoms_of s)))

pub after_refusal : (s out : List ℕ) (q : Refusal) → read_answer s (length out) ≡ Err q → buffer_after s out ≡ out
unfolding buffer_after
after_refusal s out q e = ap (λ (x : Result ℕ Refusal). read_by x s out) e

pub after_job : (s out : List ℕ) (n : ℕ) → read_answer s (length out) ≡ Ok n → Accepted s (length out) n → buffer_after s out ≡ pdb_job s ++ drop n out
unfolding buffer_after
after_job s out n e a = ap (λ (x : Result ℕ Refusal). read_by x s out) e ∙ put_front out (pdb_job s) n (job_long s ∙ sym a.file.size) a.fits

-- such a buffer is the job as long as n, and what stood behind it
module _ (s out : List ℕ) (n : ℕ) (a : Accepted s (length out) n) where
  pub front : take n (pdb_job s ++ drop n out) ≡ pdb_job s
  front = take_at (pdb_job s) (drop n out) n (job_long s ∙ sym a.file.size)

  pub behind : drop n (pdb_job s ++ drop n out) ≡ drop n out
  behind = drop_at (pdb_job s) (drop n out) n (job_long s ∙ sym a.file.size)

-- ---- what a job holds
sited : {x : ℕ} → Placed x → NotMinusZero x → Sited x
sited p q = record { inside = p.inside; plus = q }

pub sited_at : (s : List ℕ) (k : ℕ) (a : AtomLine) (t : List AtomLine) → drop k (atoms_of s) ≡ a ∷ t → Sited a.x × Sited a.y × Sited a.z
sited_at s k a t e =
    let p = every_at Proper (atoms_of s) k a t (atoms_proper s) e in
    (sited p.x p.plus_x, sited p.y p.plus_y, sited p.z p.plus_z)

pub no_lines : pdb_job [] ≡ 0 ∷ 0 ∷ 0 ∷ 9 ∷ 1 ∷ 0 ∷ 0 ∷ 0 ∷ 0 ∷ 0 ∷ 0 ∷ 0 ∷ 0 ∷ []
unfolding structure_job job_bytes head_bytes u32 u16 flat lines reading atoms segments distinct
no_lines = refl
