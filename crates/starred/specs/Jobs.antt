-- The jobs of 01's bench cases, as bytes, by the one definition of a job's bytes (job_writer/specs/Job).
use Rattle.std.specs.Prelude.{ℕ, ◌+◌, List, [], ◌∷◌}
use Rattle.numbers.specs.Bytes.{u16, u32, u64}
use Rattle.job_writer.specs.Job.{flat, segment_bytes, point, atom_bytes, head_bytes, job_bytes}
use Rattle.job_writer.specs.declared.JobAtom.{JobAtom}
use Rattle.job_writer.specs.declared.JobSegment.{JobSegment}

-- a version 1 job of c chains, all visible, and r residues, with 33 bytes an atom
unfoldable pub job : ℕ → ℕ → List JobSegment → List JobAtom → List ℕ
unfolding job_bytes head_bytes flat segment_bytes atom_bytes point u16 u32 u64
job c r segments atoms = job_bytes 1 33 atom_bytes c r segments atoms

-- the C-alpha of residue r, of chain 0, at (x,0,0): its serial is r + 1
abbrev pub alpha : ℕ → ℕ → JobAtom
alpha r x = record { serial = r + 1; role = 1; residue = r; chain = 0; x = x; y = 0; z = 0 }

-- 'The empty 13-byte job, length field 9'
unfoldable pub empty : List ℕ
unfolding job
empty = job 0 0 [] []

-- a job of one residue
unfoldable pub one_residue : List ℕ
unfolding job
one_residue = job 1 1 [] (alpha 0 0 ∷ [])

-- 'For C=1, R=2, S=0, A=2, chain visible, two C-alphas with serials 1, 2, residues 0, 1, chain 0, at (0,0,0) and (4,0,0)'
unfoldable pub two_residues : List ℕ
unfolding job
two_residues = job 1 2 [] (alpha 0 0 ∷ alpha 1 0x4010000000000000 ∷ [])

-- 'Six residues 4 apart in one chain', at 0, 4, 8, 12, 16 and 20, with a helix from one serial to another
unfoldable pub helix_over : ℕ → ℕ → List ℕ
unfolding job
helix_over start stop =
    job 1 6 (record { kind = 1; start = start; end = stop } ∷ [])
    (alpha 0 0
    ∷ alpha 1 0x4010000000000000
    ∷ alpha 2 0x4020000000000000
    ∷ alpha 3 0x4028000000000000
    ∷ alpha 4 0x4030000000000000
    ∷ alpha 5 0x4034000000000000
    ∷ [])

-- 'helix over 2 and 3', whose serials are 3 and 4
unfoldable pub six_residues : List ℕ
unfolding helix_over
six_residues = helix_over 3 4

-- 'Start above end is a segment with no atoms': from serial 4 to serial 3
unfoldable pub backwards : List ℕ
unfolding helix_over
backwards = helix_over 4 3

-- one atom of no residue and no chain, at (x,0,0)
unfoldable pub lone : ℕ → List ℕ
unfolding job
lone x = job 0 0 [] (record { serial = 1; role = 0; residue = 65535; chain = 65535; x = x; y = 0; z = 0 } ∷ [])
