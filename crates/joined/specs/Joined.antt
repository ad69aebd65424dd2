-- 02 §5: a call 'answers as the job with those records would'. The bytes of that job, of a shared job and one party's records.
use Rattle.std.specs.Prelude.{ℕ, ◌+◌, ◌-◌, List, ◌++◌, length, take, drop, Result, Ok, Err}
use Rattle.numbers.specs.Bytes.{u16, u32}
use Rattle.protein.specs.declared.Head.{Head}
use Rattle.protein.specs.Layout.{head_of}
use Rattle.protein.specs.Job.{segments_of}
use Rattle.job.specs.declared.Refusal.{Refusal}

-- its head and its chains' bytes: those of the shared job s, but for the length field, which counts the records q too, and S, which is their number. The bytes
-- from 4 on are the version, C and R, those from 11 on A and the C bytes of the chains
unfoldable pub joined_head : List ℕ → List ℕ → List ℕ
joined_head s q = u32 (length s + length q - 4) ++ (take 5 (drop 4 s) ++ (u16 (segments_of q).count ++ take (2 + (head_of s).chains) (drop 11 s)))

-- THE job: the records q stand between the chains and the atoms
unfoldable pub with_records : List ℕ → List ℕ → List ℕ
with_records s q = joined_head s q ++ (q ++ drop (13 + (head_of s).chains) s)

-- its counts, by those of the shared job: S is the number of the records
abbrev pub with_segments : List ℕ → Head → Head
with_segments q h = record { chains = h.chains; residues = h.residues; segments = (segments_of q).count; atoms = h.atoms }

-- what its checks answer, by what those of the shared job with the records do: the same refusal, or those counts
abbrev pub joined_answer : List ℕ → Result Head Refusal → Result Head Refusal
joined_answer q (Ok h) = Ok (with_segments q h)
joined_answer q (Err r) = Err r
