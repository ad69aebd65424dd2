-- Why each answer is given, in the words of 02 §1. Theorems of proofs/Demands say that an answer is given exactly for its cause.
use Rattle.std.specs.Prelude.{ℕ, ◌<◌, ◌≤◌, true, false, List, ◌≡◌, Some, None, Result, Ok, Err}
use Rattle.job.specs.declared.Refusal.{Refusal}
use Rattle.job.specs.declared.Refusal.TheVariants.{ShortLine, BadNumber, AbsentResidue, PastLimits, NoJobRoom}
use Rattle.pdb_file.specs.Faults.{fault_in}
use Rattle.pdb_file.specs.declared.Fault.TheVariants.{LineShort, LineWrong, NoResidue}
use Rattle.pdb_job.specs.Structure.{structure_size, structure_of}
use Rattle.pdb_reader.specs.Call.{past_limits}

-- a file that gives a job, of n bytes: no line at fault, counts within the job's limits
pub record Readable (s : List ℕ) (n : ℕ) : Type 0 where
  pub clean : fault_in s ≡ None
  pub limits : past_limits (structure_of s) ≡ false
  pub size : n ≡ structure_size (structure_of s)

-- it is accepted where there is room for the job
pub record Accepted (s : List ℕ) (room n : ℕ) : Type 0 where
  pub file : Readable s n
  pub fits : n ≤ room

-- 15 'counts past the job's limits', where no line is at fault
pub record Past (s : List ℕ) : Type 0 where
  pub clean : fault_in s ≡ None
  pub limits : past_limits (structure_of s) ≡ true

-- 16 'no job room, with the size needed'
pub record Short (s : List ℕ) (room n : ℕ) : Type 0 where
  pub file : Readable s n
  pub lacks : room < n

-- THE causes: of a file s and of so much room, for what each answer is given; n is the size of the job, or a line's number
pub data Cause (s : List ℕ) (room : ℕ) : Result ℕ Refusal → Type 0 where
  all_right : {n : ℕ} → Accepted s room n → Cause s room (Ok n)
  -- 'the first line at fault, carried from 1, decides among 12 to 14': a line ending before its last column read,
  at_12 : {n : ℕ} → fault_in s ≡ Some (LineShort n) → Cause s room (Err (ShortLine n))
  -- a bad number,
  at_13 : {n : ℕ} → fault_in s ≡ Some (LineWrong n) → Cause s room (Err (BadNumber n))
  -- a segment naming an absent residue;
  at_14 : {n : ℕ} → fault_in s ≡ Some (NoResidue n) → Cause s room (Err (AbsentResidue n))
  -- 'then 15, then 16'
  at_15 : Past s → Cause s room (Err PastLimits)
  at_16 : {n : ℕ} → Short s room n → Cause s room (Err (NoJobRoom n))
