-- Checks 1 to 8 in 01's order: its table, line by line.
use Rattle.std.specs.Prelude.{ℕ, zero, suc, ◌-◌, ◌/◌, ◌%◌, List, Bool, cond, not, ◌&&◌, ◌||◌, length, ltb, leb, eqb, Option, None, Some, Result, Ok, Err}
use Rattle.lists.specs.Search.{first}
use Rattle.numbers.specs.Bytes.{u8_at, u16_at, u64_at}
use Rattle.job.specs.Coordinate.{within}
use Rattle.protein.specs.Layout.{length_field, version_of, head_of, chain_at, records_of, kind_at, role_at, residue_at, chain_of_at, x_at, y_at, z_at, job_size, none}
use Rattle.protein.specs.Job.{segments_of}
use Rattle.protein.specs.declared.Head.{Head}
use Rattle.job.specs.declared.Refusal.{Refusal}
use Rattle.job.specs.declared.Refusal.TheVariants.{BadLength, BadVersion, BadCounts, BadSize, BadVisibility, BadKind, BadAtom, BadCoordinate}

-- 1: 'under 13 bytes, or length field differs from bytes after it'. 2: 'version is not 1'. 3: 'C or R above its limit'. 4: 'size differs from the counts'
unfoldable pub sizes : List ℕ → Result Head Refusal
sizes s =
    cond (ltb (length s) 13) (Err BadLength)
    (cond (not (eqb (length_field s) (length s - 4))) (Err BadLength)
    (cond (not (eqb (version_of s) 1)) (Err (BadVersion (version_of s)))
    (cond (ltb 255 (head_of s).chains) (Err BadCounts)
    (cond (ltb 16384 (head_of s).residues) (Err BadCounts)
    (cond (not (eqb (length s) (job_size (head_of s)))) (Err BadSize)
    (Ok (head_of s)))))))

-- 5: 'a visibility byte above 1'
unfoldable pub bad_visibility : List ℕ → Head → ℕ → Bool
bad_visibility s h c = ltb 1 (u8_at s (chain_at c))

-- 6: 'a kind above 2', in the segment records q
unfoldable pub bad_kind : List ℕ → ℕ → Bool
bad_kind q i = ltb 2 (u8_at q (kind_at i))

-- 'not none and R or more', 'not none and C or more'
unfoldable pub stray : ℕ → ℕ → Bool
stray limit v = not (eqb v none) && leb limit v

-- 7: 'a role above 2, residue not none and R or more, or chain not none and C or more'
unfoldable pub bad_atom : List ℕ → Head → ℕ → Bool
bad_atom s h a =
    ltb 2 (u8_at s (role_at h a))
    || (stray h.residues (u16_at s (residue_at h a)) || stray h.chains (u16_at s (chain_of_at h a)))

-- 8: 'a coordinate of any atom not within -16384 to 16384 (NaN included)'
unfoldable pub bad_coordinate : List ℕ → Head → ℕ → Bool
bad_coordinate s h a =
    not (within (u64_at s (x_at h a)))
    || (not (within (u64_at s (y_at h a))) || not (within (u64_at s (z_at h a))))

-- what a search answers: the number that `first` counts from 1, or none
abbrev pub found : ℕ → Option ℕ
found zero = None
found (suc i) = Some i

-- the refusal of what a search found, or what comes after ('first chain', 'first segment', 'first atom')
abbrev pub or_first : ℕ → (ℕ → Refusal) → Result Head Refusal → Result Head Refusal
or_first zero f rest = rest
or_first (suc i) f rest = Err (f i)

-- 5 to 8 of a job with the segment records q, its own or those of a party of 02 §5
unfoldable pub contents : List ℕ → Head → List ℕ → Result Head Refusal
contents s h q =
    or_first (first (bad_visibility s h) h.chains) BadVisibility
    (or_first (first (bad_kind q) (segments_of q).count) BadKind
    (or_first (first (bad_atom s h) h.atoms) BadAtom
    (or_first (first (bad_coordinate s h) h.atoms) BadCoordinate
    (Ok h))))

abbrev pub and_then : Result Head Refusal → (Head → Result Head Refusal) → Result Head Refusal
and_then (Ok h) f = f h
and_then (Err r) f = Err r

-- checks 1 to 8: the job's counts, or the first refusal
unfoldable pub check : List ℕ → Result Head Refusal
check s = and_then (sizes s) (λ h. contents s h (records_of s h))

-- 02 §5: '4 also if S is not 0 or the records are not whole or above 65,535', of a job with the counts h and of n bytes of records
unfoldable pub unshared : Head → ℕ → Bool
unshared h n = not (eqb h.segments 0) || (not (eqb (n % 9) 0) || ltb 65535 (n / 9))

-- checks 1 to 4 of a shared job with n bytes of records
unfoldable pub shared_sizes : List ℕ → ℕ → Result Head Refusal
shared_sizes s n = and_then (sizes s) (λ h. cond (unshared h n) (Err BadSize) (Ok h))

-- 1 to 8 of a shared job with one party's records q
unfoldable pub check_shared : List ℕ → List ℕ → Result Head Refusal
check_shared s q = and_then (shared_sizes s (length q)) (λ h. contents s h q)
