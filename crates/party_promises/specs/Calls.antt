-- What a call of one of two parties answers, and what it leaves in every buffer, on every input: the records `BuildsShare` and `PlansRecords` at the end, which the
-- contracts of build_share and plan_records cite and the theorems of proofs/Demands are over. 02 §5, sentence by sentence.
use Rattle.std.specs.Prelude.{ℕ, List, cond, ◌≡◌, length, Result, Ok, Err}
use Rattle.protein.specs.declared.Head.{Head}
use Rattle.protein.specs.Protein.{Protein, protein_of}
use Rattle.job.specs.Check.{check_shared}
use Rattle.job.specs.declared.Refusal.{Refusal}
use Rattle.job.specs.declared.Refusal.TheVariants.{BadShares}
use Rattle.tubes.specs.Tubes.{Tube}
use Rattle.buffers.specs.Outs.{Outs, Sizes, sizes_of}
use Rattle.shares.specs.declared.Shares.{Shares}
use Rattle.shares.specs.Shares.{bad_shares, share_sizes, share_of, with_share}
use Rattle.room.specs.Room.{Lent, Scratch, Buffers, lent, scratch_past}
use Rattle.buffers.specs.declared.Counts.{Counts}
use Rattle.promises.specs.declared.Plan.{Plan}
use Rattle.promises.specs.Calls.{by_check, tubes_with, build_checks, filled, plan_checks, built_numbers, planned_numbers}

-- 'Atoms, residues and chains are one shared job with S = 0; each party has its own segment records': what is said of the first refusal of checks 1 to 8, of the
-- job's bytes s and the records q, and where there is none of the job's counts
abbrev pub after_shared : {A : Type 0} → List ℕ → List ℕ → (Refusal → A) → (Head → A) → A
after_shared s q refused passed = by_check (check_shared s q) refused passed

-- ---- one party's build

-- 'in that share': the party is lent its share of every output buffer, and the scratch
abbrev pub share_lent : Shares → Lent → Lent
share_lent m l = record { outs = share_sizes m; words = l.words; floats = l.floats }

-- '20 shares overlap or leave a buffer, after 8 and before 9'; then 9 to 11 in the share, of a job with the counts h and the tubes us. m are the caller's shares, k
-- the other's
unfoldable pub share_checks : Head → List Tube → Shares → Shares → Lent → Result Counts Refusal
share_checks h us m k l = cond (bad_shares l.outs m k) (Err BadShares) (build_checks h us (share_lent m l))

-- 'A call gets the job, both shares and one party's records, and answers': of what is lent, the whole buffers
unfoldable pub share_answer : List ℕ → List ℕ → Shares → Shares → Lent → Result Counts Refusal
share_answer s q m k l = after_shared s q Err (λ h. share_checks h (tubes_with s h q) m k l)

-- 'in that share, corners and starts counted from 0 there': the mesh of the tubes us at the front of each share, every other place as it was; and no place changes
-- under a refusal
abbrev pub shared_by : Result Counts Refusal → Protein → List Tube → Shares → Outs → Outs
shared_by (Err r) P us m o = o
shared_by (Ok c) P us m o = with_share m o (filled P us (share_of m o))

-- the final contents of the six whole buffers, which held o
unfoldable pub share_outs : List ℕ → List ℕ → Shares → Shares → Lent → Outs → Outs
share_outs s q m k l o = after_shared s q (λ r. o) (λ h. shared_by (share_checks h (tubes_with s h q) m k l) (protein_of s h) (tubes_with s h q) m o)

-- 01: 'all scratch after a refusal at or before check 9 (later numbers placed there too) .. unchanged'; past it the first 8R and the first 32R places are 0. n is
-- how long the whole buffers are
unfoldable pub share_scratch : List ℕ → List ℕ → Shares → Shares → Sizes → Scratch → Scratch
share_scratch s q m k n c = after_shared s q (λ r. c) (λ h. cond (bad_shares n m k) c (scratch_past h c))

-- ---- one party's plan: it has no share

-- the answer, of the tube number t and the lengths of the scratch
unfoldable pub records_answer : List ℕ → List ℕ → ℕ → ℕ → ℕ → Result Plan Refusal
records_answer s q t words floats = after_shared s q Err (λ h. plan_checks h (tubes_with s h q) t words floats)

unfoldable pub records_scratch : List ℕ → List ℕ → Scratch → Scratch
records_scratch s q c = after_shared s q (λ r. c) (λ h. scratch_past h c)

-- ==== THE PROMISES

-- build_share, of a shared job's bytes s and the caller's records q, with the shares m of the caller and k of the other, where the whole buffers and the scratch held
-- b, answers r and leaves them as b'
pub record BuildsShare (s q : List ℕ) (m k : Shares) (b : Buffers) (r : Result Counts Refusal) (b' : Buffers) : Type 0 where
  pub answer : built_numbers r ≡ built_numbers (share_answer s q m k (lent b))
  pub outputs : b'.outs ≡ share_outs s q m k (lent b) b.outs
  pub scratch : b'.scratch ≡ share_scratch s q m k (sizes_of b.outs) b.scratch

-- plan_records, of a shared job's bytes s, the caller's records q and a tube number t, where the scratch held c, answers r and leaves it as c'
pub record PlansRecords (s q : List ℕ) (t : ℕ) (c : Scratch) (r : Result Plan Refusal) (c' : Scratch) : Type 0 where
  pub answer : planned_numbers r ≡ planned_numbers (records_answer s q t (length c.words) (length c.floats))
  pub scratch : c' ≡ records_scratch s q c
