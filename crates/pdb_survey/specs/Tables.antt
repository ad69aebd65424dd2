-- What the tables of a survey hold: of each residue its name, the serial of its first atom and that of its last; of each chain letter its number.
use Rattle.std.specs.Prelude.{ℕ, ◌+◌, ◌<◌, List, ◌≡◌, Bool, true, false, length, get_or}
use Rattle.appearance.specs.Order.{member, order, numbered}
use Rattle.appearance.specs.Index.{Index, Keyed}
use Rattle.pdb_records.specs.declared.AtomLine.{AtomLine}
use Rattle.pdb_file.specs.Reading.{names, letters, records, atoms_of}
use Rattle.pdb_file.specs.Faults.{first_atom, last_atom, serial_in}
use Rattle.pdb_survey.specs.Lines.{own_faults, ahead}
use Rattle.pdb_survey.specs.declared.FileCounts.{FileCounts}
use Rattle.pdb_survey.specs.declared.Overview.{Overview}

-- the n residues of the atoms l: the first serials stand from place 0 of ends on, the last ones from 16,384 on
pub record Residues (keys links ends : List ℕ) (n : ℕ) (l : List AtomLine) : Type 0 where
  pub index : Index keys links n
  pub keyed : Keyed keys n (names l)
  pub size : length ends ≡ 32768
  pub first : (i : ℕ) → i < n → get_or ends i 0 ≡ serial_in (first_atom (get_or keys i 0) l)
  pub last : (i : ℕ) → i < n → get_or ends (16384 + i) 0 ≡ serial_in (last_atom (get_or keys i 0) l)

-- the c chains of the letters l: at each letter its number, counted from 1
pub record Marks (marks : List ℕ) (c : ℕ) (l : List ℕ) : Type 0 where
  pub size : length marks ≡ 256
  pub count : c ≡ length (order l)
  pub mark : (x : ℕ) → x < 256 → get_or marks x 0 ≡ numbered l x

-- the first n keys are among those of l; they are all of them, unless there are more
pub record Known (keys links : List ℕ) (n : ℕ) (more : Bool) (l : List ℕ) : Type 0 where
  pub index : Index keys links n
  pub among : (i : ℕ) → i < n → member (get_or keys i 0) l ≡ true
  pub all : more ≡ false → Keyed keys n l

-- the tables hold all residues and chains of the atoms l
pub record Whole (keys links ends marks : List ℕ) (c : FileCounts) (l : List AtomLine) : Type 0 where
  pub atoms : c.atoms ≡ length l
  pub residues : Residues keys links ends c.residues l
  pub chains : Marks marks c.chains (letters l)

-- the tables after the atoms l: they have room for 16,384 residues, a job's limit, and hold all that the atoms have, or say that there are more
pub record Noted (keys links ends marks : List ℕ) (c : FileCounts) (l : List AtomLine) : Type 0 where
  pub known : Known keys links c.residues c.more (names l)
  pub past : c.more ≡ true → 16384 < length (order (names l))
  pub whole : c.more ≡ false → Whole keys links ends marks c l

-- THE promise of a survey: the first line that is at fault by itself, how many segments stand before it, and the tables
pub record Surveyed (s keys links ends marks : List ℕ) (v : Overview) : Type 0 where
  pub fault : v.fault ≡ own_faults 1 (records s)
  pub ahead_is : v.ahead ≡ ahead (records s)
  pub noted : Noted keys links ends marks v.counts (atoms_of s)
