-- What a line of a PDB file says.
use Rattle.std.specs.Prelude.{ℕ, ◌+◌, ◌*◌, ◌-◌, List, Bool, true, false, cond, length, ltb, Option, Some, None}
use Rattle.pdb_lines.specs.Columns.{column, columns, named}
use Rattle.pdb_fields.specs.declared.Signed.{Signed}
use Rattle.pdb_fields.specs.Numbers.{whole, thousandths}
use Rattle.coordinates.specs.Coordinate.{bits}
use Rattle.pdb_records.specs.Names.{ATOM, HELIX, SHEET, MODEL, ENDMDL, CA, O}
use Rattle.pdb_records.specs.declared.Kind.{Kind}
use Rattle.pdb_records.specs.declared.Kind.TheVariants.{Atom, Helix, Sheet, Model, Endmdl, Other}
use Rattle.pdb_records.specs.declared.Record.{Record}
use Rattle.pdb_records.specs.declared.Record.TheVariants.{Skipped, Short, BadNumber, AnAtom, ASegment}

-- which record a line is, by its first six bytes: 'Read ATOM, HELIX and SHEET .., until the first ENDMDL or a second MODEL'
unfoldable pub line_kind : List ℕ → Kind
line_kind l =
    cond (named ATOM 1 l) Atom
    (cond (named HELIX 1 l) Helix
    (cond (named SHEET 1 l) Sheet
    (cond (named MODEL 1 l) Model
    (cond (named ENDMDL 1 l) Endmdl Other))))

-- '" CA " in columns 13 to 16 is C-alpha; "CA  " is calcium and has role 0. " O  " is backbone oxygen': C-alpha 1, backbone oxygen 2, any other atom 0
unfoldable pub role_of : List ℕ → ℕ
role_of l = cond (named CA 13 l) 1 (cond (named O 13 l) 2 0)

-- a residue's name in one number: chain letter, sequence number by value, insertion code. Equal exactly when all three are.
abbrev pub name_of : ℕ → Bool → ℕ → ℕ → ℕ
name_of chain minus n icode = (chain * 8589934592 + cond minus (4294967296 - n) (4294967296 + n)) * 256 + icode

-- 'serials have no minus'
abbrev pub serial_of : Option Signed → Option ℕ
serial_of None = None
serial_of (Some n) = cond n.minus None (Some n.size)

-- 'A residue is a distinct chain letter, sequence number and insertion code'
abbrev pub residue_of : ℕ → Option Signed → ℕ → Option ℕ
residue_of chain None icode = None
residue_of chain (Some n) icode = Some (name_of chain n.minus n.size icode)

-- 'divided once by 1000 in f64'
abbrev pub bits_of : Option Signed → Option ℕ
bits_of None = None
bits_of (Some n) = Some (bits n.minus n.size)

-- a right field is handed on
abbrev pub with : Option ℕ → (ℕ → Record) → Record
with None f = BadNumber
with (Some n) f = f n

-- the residue whose chain letter is in column c, its number in the four columns from n on, its insertion code in the next
abbrev pub residue_columns : ℕ → ℕ → List ℕ → Option ℕ
residue_columns c n l = residue_of (column c l) (whole (columns n (n + 3) l)) (column (n + 4) l)

-- ATOM: serial 7-11, name 13-16, chain 22, number 23-26, insertion code 27, x 31-38, y 39-46, z 47-54
unfoldable pub atom_of : List ℕ → Record
atom_of l =
    cond (ltb (length l) 54) Short
    (with (serial_of (whole (columns 7 11 l))) (λ s.
    with (residue_columns 22 23 l) (λ r.
    with (bits_of (thousandths (columns 31 38 l))) (λ x.
    with (bits_of (thousandths (columns 39 46 l))) (λ y.
    with (bits_of (thousandths (columns 47 54 l))) (λ z.
    AnAtom (record { serial = s; role = role_of l; chain = column 22 l; name = r; x = x; y = y; z = z })))))))

-- a segment from the residue at columns c and n to that at c' and n'; the last column read is 38
unfoldable pub segment_of : ℕ → ℕ → ℕ → ℕ → ℕ → List ℕ → Record
segment_of kind c n c' n' l =
    cond (ltb (length l) 38) Short
    (with (residue_columns c n l) (λ s.
    with (residue_columns c' n' l) (λ e.
    ASegment (record { kind = kind; start = s; end = e }))))

-- HELIX: chain 20, number 22-25, insertion code 26; chain 32, number 34-37, insertion code 38
abbrev pub helix_of : List ℕ → Record
helix_of l = segment_of 1 20 22 32 34 l

-- SHEET: chain 22, number 23-26, insertion code 27; chain 33, number 34-37, insertion code 38
abbrev pub sheet_of : List ℕ → Record
sheet_of l = segment_of 2 22 23 33 34 l

-- what a line says, by its kind; a line that is none of the three is passed over
unfoldable pub of_kind : Kind → List ℕ → Record
of_kind Atom l = atom_of l
of_kind Helix l = helix_of l
of_kind Sheet l = sheet_of l
of_kind Model l = Skipped
of_kind Endmdl l = Skipped
of_kind Other l = Skipped
