-- What the reader answers, and what it leaves in the lent buffer, on every input. This file, with what it cites, is what a user has to believe.
use Rattle.std.specs.Prelude.{ℕ, List, [], ◌∷◌, Bool, ◌||◌, cond, ◌≡◌, length, ltb, Option, Some, None, Result, Ok, Err}
use Rattle.lists.specs.Put.{put}
use Rattle.job.specs.Refusals.{size_numbers}
use Rattle.job.specs.declared.Refusal.{Refusal}
use Rattle.job.specs.declared.Refusal.TheVariants.{ShortLine, BadNumber, AbsentResidue, PastLimits, NoJobRoom}
use Rattle.pdb_file.specs.Faults.{fault_in}
use Rattle.pdb_file.specs.declared.Fault.{Fault}
use Rattle.pdb_file.specs.declared.Fault.TheVariants.{LineShort, LineWrong, NoResidue}
use Rattle.pdb_job.specs.Structure.{Structure, chains_of, residues_of, structure_size, structure_of, pdb_job}

-- 15: 'counts past the job's limits' (01: 'C is at most 255, R at most 16,384', and S and A are u16)
unfoldable pub past_limits : Structure → Bool
past_limits x = ltb 255 (chains_of x.atoms) || (ltb 16384 (residues_of x.atoms) || (ltb 65535 (length x.segments) || ltb 65535 (length x.atoms)))

-- 12, 13 or 14, with the line
abbrev pub refusal_of : Fault → Refusal
refusal_of (LineShort n) = ShortLine n
refusal_of (LineWrong n) = BadNumber n
refusal_of (NoResidue n) = AbsentResidue n

-- 'the first line at fault .. decides among 12 to 14, .. then 15, then 16'
abbrev pub by_fault : Option Fault → Result ℕ Refusal → Result ℕ Refusal
by_fault None r = r
by_fault (Some f) r = Err (refusal_of f)

-- 16: 'no job room, with the size needed'
unfoldable pub read_checks : Structure → ℕ → Result ℕ Refusal
read_checks x room =
    cond (past_limits x) (Err PastLimits)
    (cond (ltb room (structure_size x)) (Err (NoJobRoom (structure_size x))) (Ok (structure_size x)))

-- THE answer: of the file's bytes and of the lent buffer's length
unfoldable pub read_answer : List ℕ → ℕ → Result ℕ Refusal
read_answer s room = by_fault (fault_in s) (read_checks (structure_of s) room)

-- 'No output buffer changes under a refusal'; 'Places past what a call writes stay as they were'
abbrev pub read_by : Result ℕ Refusal → List ℕ → List ℕ → List ℕ
read_by (Ok n) s out = put out 0 (pdb_job s)
read_by (Err r) s out = out

-- THE final contents of the buffer, which held out
unfoldable pub buffer_after : List ℕ → List ℕ → List ℕ
buffer_after s out = read_by (read_answer s (length out)) s out

-- THE promise of read_pdb: of a file's bytes s, where the lent buffer held out, it answers r and leaves out'
pub record Reads (s out : List ℕ) (r : Result ℕ Refusal) (out' : List ℕ) : Type 0 where
  -- its number and values are those of the answer (02 §1; 01, 'Refusal numbers'): 0 and the job's size, or the refusal's
  pub answer : size_numbers r ≡ size_numbers (read_answer s (length out))
  pub buffer : out' ≡ buffer_after s out
