-- 'the first line at fault, carried from 1, decides among 12 to 14, lowest first' (02 §1).
use Rattle.std.specs.Prelude.{ℕ, ◌+◌, List, [], ◌∷◌, Bool, ◌&&◌, cond, eqb, Option, Some, None, is_some}
use Rattle.std.specs.Option.{option_or, unwrap_or}
use Rattle.pdb_records.specs.declared.Record.{Record}
use Rattle.pdb_records.specs.declared.Record.TheVariants.{Skipped, Short, BadNumber, AnAtom, ASegment}
use Rattle.pdb_records.specs.declared.AtomLine.{AtomLine}
use Rattle.pdb_records.specs.declared.SegmentLine.{SegmentLine}
use Rattle.pdb_file.specs.declared.Fault.{Fault}
use Rattle.pdb_file.specs.declared.Fault.TheVariants.{LineShort, LineWrong, NoResidue}
use Rattle.pdb_file.specs.Reading.{records, atoms_of}

-- 'the serial of the starting residue's first atom': of the residue named n
unfoldable pub first_atom : ℕ → List AtomLine → Option ℕ
first_atom n [] = None
first_atom n (a ∷ ats) = cond (eqb a.name n) (Some a.serial) (first_atom n ats)

-- 'that of the ending one's last'
unfoldable pub last_atom : ℕ → List AtomLine → Option ℕ
last_atom n [] = None
last_atom n (a ∷ ats) = option_or (last_atom n ats) (cond (eqb a.name n) (Some a.serial) None)

-- the same of what one line gives
abbrev pub found_in : ℕ → Record → Option ℕ
found_in n Skipped = None
found_in n Short = None
found_in n BadNumber = None
found_in n (AnAtom a) = cond (eqb a.name n) (Some a.serial) None
found_in n (ASegment g) = None

-- the serial of an atom that was found
abbrev pub serial_in : Option ℕ → ℕ
serial_in f = unwrap_or f 0

-- both ends of a segment are residues of the file
abbrev pub present : List AtomLine → SegmentLine → Bool
present ats g = is_some (first_atom g.start ats) && is_some (first_atom g.end ats)

-- the fault of line n: 12 'a line ending before its last column read', 13 'a bad number', 14 'a segment naming an absent residue'; or none
abbrev pub fault_of : List AtomLine → ℕ → Record → Option Fault
fault_of ats n Skipped = None
fault_of ats n Short = Some (LineShort n)
fault_of ats n BadNumber = Some (LineWrong n)
fault_of ats n (AnAtom a) = None
fault_of ats n (ASegment g) = cond (present ats g) None (Some (NoResidue n))

-- the first line at fault among those from line n on
unfoldable pub faults : List AtomLine → ℕ → List Record → Option Fault
faults ats n [] = None
faults ats n (r ∷ rs) = option_or (fault_of ats n r) (faults ats (n + 1) rs)

-- THE fault of a file, lines counted from 1
abbrev pub fault_in : List ℕ → Option Fault
fault_in s = faults (atoms_of s) 1 (records s)
