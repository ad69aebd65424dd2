-- What the builder reads out of a job: the atoms and segments of the structure that it was written from. `file_read` of proofs/Demands is over it. And what a
-- coordinate's bits are, which `coordinates_placed` there says.
use Rattle.std.specs.Prelude.{ℕ, suc, ◌<◌, true, List, ◌∷◌, ◌≡◌, length, drop, Float}
use Rattle.std.specs.Float.{binary32, binary64}
use Rattle.std.specs.Float.Ieee.{of_bits}
use Rattle.floats.specs.Floats.{narrowed}
use Rattle.vectors.specs.Vec.{vec}
use Rattle.vectors.specs.declared.Vec3.{Vec3}
use Rattle.protein.specs.Layout.{records_of}
use Rattle.protein.specs.Job.{Job, job_of, Segments, segments_of}
use Rattle.protein.specs.Places.{place_of}
use Rattle.protein.specs.declared.Head.{Head}
use Rattle.job.specs.Coordinate.{within}
use Rattle.job_writer.specs.declared.JobAtom.{JobAtom}
use Rattle.job_writer.specs.declared.JobSegment.{JobSegment}
use Rattle.pdb_records.specs.declared.AtomLine.{AtomLine}
use Rattle.pdb_records.specs.declared.SegmentLine.{SegmentLine}
use Rattle.pdb_job.specs.Structure.{Structure, to_atom, to_segment, chains_of, residues_of}

-- 'zero always +0': the bits are not those of -0
abbrev pub NotMinusZero : ℕ → Type 0
NotMinusZero x = x ≡ 0x8000000000000000 → ⊥

-- a coordinate's bits: a number within check 8's limits, -16384 to 16384, and not -0
pub record Sited (x : ℕ) : Type 0 where
  pub inside : within x ≡ true
  pub plus : NotMinusZero x

-- the counts of a structure's job
abbrev pub head_for : Structure → Head
head_for x = record { chains = chains_of x.atoms; residues = residues_of x.atoms; segments = length x.segments; atoms = length x.atoms }

-- the f32 that the builder has of a coordinate's f64 bits; 01, 'Floats': 'f64 to f32 is IEEE 754 nearest-even'
unfoldable pub narrow : ℕ → Float
unfolding narrowed
narrow bits = narrowed binary32 (of_bits binary64 bits)

-- segment k of the segments G is g
pub record SegmentSaid (G : Segments) (k : ℕ) (g : JobSegment) : Type 0 where
  pub kind : G.kind k ≡ g.kind
  pub start : G.start k ≡ g.start
  pub stop : G.stop k ≡ g.end

-- atom k of the job J, which stands at p, is a
pub record AtomSaid (J : Job) (p : Vec3) (k : ℕ) (a : JobAtom) : Type 0 where
  pub serial : J.serial k ≡ a.serial
  pub role : J.role k ≡ a.role
  pub residue : J.residue k ≡ a.residue
  pub chain : J.chain k ≡ a.chain
  pub place : p ≡ vec (narrow a.x) (narrow a.y) (narrow a.z)

-- THE job J with the segments G, whose atoms stand where `place` says (atoms from 1), says what the structure x says: so many atoms, residues and segments;
-- 'Every chain is visible' (02 §1); and of its segment and its atom number k what the k-th line of that kind says, as `to_segment` and `to_atom` have it
pub record JobSays (x : Structure) (J : Job) (G : Segments) (place : ℕ → Vec3) : Type 0 where
  pub atoms : J.atoms ≡ length x.atoms
  pub residues : J.residues ≡ residues_of x.atoms
  pub segments : G.count ≡ length x.segments
  pub visible : (c : ℕ) → c < chains_of x.atoms → J.visible c ≡ true
  pub segment : (k : ℕ) (g : SegmentLine) (t : List SegmentLine)
      → drop k x.segments ≡ g ∷ t → SegmentSaid G k (to_segment x.atoms g)
  pub atom : (k : ℕ) (a : AtomLine) (t : List AtomLine)
      → drop k x.atoms ≡ a ∷ t → AtomSaid J (place (suc k)) k (to_atom x.atoms a)

-- the same of a job's bytes, as the builder reads them: with the counts h and the records that stand in it
abbrev pub Says : Structure → Head → List ℕ → Type 0
Says x h b = JobSays x (job_of b h) (segments_of (records_of b h)) (place_of b h)
