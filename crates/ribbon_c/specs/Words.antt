-- The calls for C: an answer is words in a lent array, those of an answer that the call's own promise allows.
use Rattle.std.specs.Prelude.{ℕ, ◌+◌, ◌%◌, List, [], ◌∷◌, ◌≡◌, get_or, Result}
use Rattle.job.specs.Refusals.{size_numbers}
use Rattle.job.specs.declared.Refusal.{Refusal}
use Rattle.pdb_reader.specs.Call.{Reads}
use Rattle.buffers.specs.declared.Counts.{Counts}
use Rattle.buffers.specs.Outs.{Outs}
use Rattle.stl_writer.specs.Call.{WritesStl}
use Rattle.stl_reader.specs.Call.{Lists, ReadsStl}
use Rattle.shares.specs.declared.Share.{Share}
use Rattle.shares.specs.declared.Shares.{Shares}
use Rattle.room.specs.Room.{Scratch, Buffers}
use Rattle.job.specs.declared.Refusal.{Refusal}
use Rattle.promises.specs.declared.Plan.{Plan}
use Rattle.promises.specs.Calls.{built_numbers, planned_numbers, Builds, Plans}
use Rattle.party_promises.specs.Calls.{BuildsShare, PlansRecords}

-- a number as a word of 32 bits
abbrev pub word_of : ℕ → ℕ
word_of n = n % 4294967296

abbrev pub words_of : List ℕ → List ℕ
words_of [] = []
words_of (n ∷ l) = word_of n ∷ words_of l

-- ribbon_build, of a job's bytes s with the buffers b lent, leaves the words a in the answer's place and the buffers as b'
pub record BuildsWords (s : List ℕ) (b : Buffers) (a : List ℕ) (b' : Buffers) : Type 0 where
  pub answer : Result Counts Refusal
  pub promise : Builds s b answer b'
  pub words : a ≡ words_of (built_numbers answer)

-- ribbon_plan, of a job's bytes s and a tube number k with the scratch c lent
pub record PlansWords (s : List ℕ) (k : ℕ) (c : Scratch) (a : List ℕ) (c' : Scratch) : Type 0 where
  pub answer : Result Plan Refusal
  pub promise : Plans s k c answer c'
  pub words : a ≡ words_of (planned_numbers answer)

-- ribbon_read_pdb, of a file's bytes s, where the job's buffer held out
pub record ReadsWords (s out a out' : List ℕ) : Type 0 where
  pub answer : Result ℕ Refusal
  pub promise : Reads s out answer out'
  pub words : a ≡ words_of (size_numbers answer)

-- ribbon_write_stl, of the mesh buffers o and the counts c, where the lent bytes held out
pub record WritesStlWords (o : Outs) (c : Counts) (out a out' : List ℕ) : Type 0 where
  pub answer : Result ℕ Refusal
  pub promise : WritesStl 8 8 o c out answer out'
  pub words : a ≡ words_of (size_numbers answer)

-- ribbon_read_stl, of a file's bytes s, where the lent lists held l
pub record ReadsStlWords (s : List ℕ) (l : Lists) (a : List ℕ) (l' : Lists) : Type 0 where
  pub answer : Result ℕ Refusal
  pub promise : ReadsStl s l answer l'
  pub words : a ≡ words_of (size_numbers answer)

-- a share in a list of numbers: its start at place i, and its length behind it
abbrev pub share_at : List ℕ → ℕ → Share
share_at l i = record { start = get_or l i 0; len = get_or l (i + 1) 0 }

-- a party's shares in twelve numbers from place i on, two a buffer: positions, normals, tags, triangles, tubes, boxes
abbrev pub shares_at : List ℕ → ℕ → Shares
shares_at l i = record {
  positions = share_at l i;
  normals = share_at l (i + 2);
  tags = share_at l (i + 4);
  triangles = share_at l (i + 6);
  tubes = share_at l (i + 8);
  boxes = share_at l (i + 10);
}

-- ribbon_build_share, of a shared job's bytes s, the caller's records q and the shares n, the caller's twelve numbers and then the other's, with the whole
-- buffers b lent
pub record BuildsShareWords (s q n : List ℕ) (b : Buffers) (a : List ℕ) (b' : Buffers) : Type 0 where
  pub answer : Result Counts Refusal
  pub promise : BuildsShare s q (shares_at n 0) (shares_at n 12) b answer b'
  pub words : a ≡ words_of (built_numbers answer)

-- ribbon_plan_records, of a shared job's bytes s, the caller's records q and a tube number k with the scratch c lent
pub record PlansRecordsWords (s q : List ℕ) (k : ℕ) (c : Scratch) (a : List ℕ) (c' : Scratch) : Type 0 where
  pub answer : Result Plan Refusal
  pub promise : PlansRecords s q k c answer c'
  pub words : a ≡ words_of (planned_numbers answer)
