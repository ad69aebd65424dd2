-- What some records give the job of the atoms ats, as bytes.
use Rattle.std.specs.Prelude.{ℕ, ◌<◌, List, [], ◌∷◌, map, ◌≡◌, get_or}
use Rattle.lists.specs.Search.{last}
use Rattle.appearance.specs.Index.{is_key}
use Rattle.job_writer.specs.Job.{flat, segment_bytes, atom_bytes}
use Rattle.pdb_records.specs.declared.Record.{Record}
use Rattle.pdb_records.specs.declared.AtomLine.{AtomLine}
use Rattle.pdb_file.specs.Reading.{atoms, atoms_in, segments}
use Rattle.pdb_job.specs.Structure.{to_atom, to_segment}

-- their segments, one after another
abbrev pub segments_from : List AtomLine → List Record → List ℕ
segments_from ats rs = flat segment_bytes (map (to_segment ats) (segments rs))

-- their atoms
abbrev pub atoms_from : List AtomLine → List Record → List ℕ
atoms_from ats rs = flat atom_bytes (map (to_atom ats) (atoms rs))

-- the tables have the residue and the chain of the atom that a line gives
abbrev pub Held : List ℕ → List ℕ → ℕ → Record → Type 0
Held keys marks n r = (a : AtomLine) → atoms_in r ≡ a ∷ [] → (0 < last (is_key keys a.name) n) × (a.chain < 256 → 0 < get_or marks a.chain 0)
