-- The job that a structure stands for, whatever file its atoms and segments were read from (02 §1).
use Rattle.std.specs.Prelude.{ℕ, ◌+◌, ◌*◌, List, map, length}
use Rattle.appearance.specs.Order.{place, order}
use Rattle.job_writer.specs.Job.{job_bytes, atom_bytes}
use Rattle.job_writer.specs.declared.JobAtom.{JobAtom}
use Rattle.job_writer.specs.declared.JobSegment.{JobSegment}
use Rattle.pdb_records.specs.declared.AtomLine.{AtomLine}
use Rattle.pdb_records.specs.declared.SegmentLine.{SegmentLine}
use Rattle.pdb_file.specs.Reading.{atoms_of, segments_of, names, letters}
use Rattle.pdb_file.specs.Faults.{first_atom, last_atom, serial_in}

-- what a file says: its atoms and its segments, each in file order
pub record Structure : Type 0 where
  pub atoms : List AtomLine
  pub segments : List SegmentLine

-- 'A residue is a distinct chain letter, sequence number and insertion code; residues and chains are numbered by first appearance in ATOM lines'
abbrev pub residue_order : List AtomLine → List ℕ
residue_order ats = order (names ats)

abbrev pub chain_order : List AtomLine → List ℕ
chain_order ats = order (letters ats)

-- how many there are
abbrev pub residues_of : List AtomLine → ℕ
residues_of ats = length (residue_order ats)

abbrev pub chains_of : List AtomLine → ℕ
chains_of ats = length (chain_order ats)

-- an ATOM line as an atom of the job, among the atoms ats
abbrev pub to_atom : List AtomLine → AtomLine → JobAtom
to_atom ats a = record {
  serial = a.serial;
  role = a.role;
  residue = place a.name (residue_order ats);
  chain = place a.chain (chain_order ats);
  x = a.x;
  y = a.y;
  z = a.z;
}

-- 'from the serial of the starting residue's first atom to that of the ending one's last'
abbrev pub to_segment : List AtomLine → SegmentLine → JobSegment
to_segment ats g = record {
  kind = g.kind;
  start = serial_in (first_atom g.start ats);
  end = serial_in (last_atom g.end ats);
}

-- 01: 'Whole job: 13 + C + 9S + 33A bytes'
abbrev pub structure_size : Structure → ℕ
structure_size x = 13 + chains_of x.atoms + 9 * length x.segments + 33 * length x.atoms

-- THE job: 'Segments, in file order', and the atoms in file order; 'a version 1 job'
unfoldable pub structure_job : Structure → List ℕ
structure_job x =
    job_bytes 1 33 atom_bytes (chains_of x.atoms) (residues_of x.atoms) (map (to_segment x.atoms) x.segments) (map (to_atom x.atoms) x.atoms)

-- what a PDB file says
abbrev pub structure_of : List ℕ → Structure
structure_of s = record { atoms = atoms_of s; segments = segments_of s }

-- and its job
abbrev pub pdb_job : List ℕ → List ℕ
pdb_job s = structure_job (structure_of s)
