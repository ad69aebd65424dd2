-- A PDB file as a list of records: its lines 'until the first ENDMDL or a second MODEL' (02 §1), and the atoms and segments that they give.
use Rattle.std.specs.Prelude.{ℕ, List, [], ◌∷◌, ◌++◌, map, Bool, true, false, cond, drop}
use Rattle.pdb_lines.specs.Lines.{lines}
use Rattle.pdb_records.specs.Records.{line_kind, of_kind}
use Rattle.pdb_records.specs.declared.Kind.{Kind}
use Rattle.pdb_records.specs.declared.Kind.TheVariants.{Atom, Helix, Sheet, Model, Endmdl, Other}
use Rattle.pdb_records.specs.declared.Record.{Record}
use Rattle.pdb_records.specs.declared.Record.TheVariants.{Skipped, Short, BadNumber, AnAtom, ASegment}
use Rattle.pdb_records.specs.declared.AtomLine.{AtomLine}
use Rattle.pdb_records.specs.declared.SegmentLine.{SegmentLine}

-- reading ends before this line; seen: a MODEL line was read
abbrev pub stops : Bool → Kind → Bool
stops seen Atom = false
stops seen Helix = false
stops seen Sheet = false
stops seen Model = seen
stops seen Endmdl = true
stops seen Other = false

-- whether a MODEL line was read, after this line
abbrev pub saw : Bool → Kind → Bool
saw seen Atom = seen
saw seen Helix = seen
saw seen Sheet = seen
saw seen Model = true
saw seen Endmdl = seen
saw seen Other = seen

-- the records of some lines
unfoldable pub reading : Bool → List (List ℕ) → List Record
reading seen [] = []
reading seen (l ∷ ls) = cond (stops seen (line_kind l)) [] (of_kind (line_kind l) l ∷ reading (saw seen (line_kind l)) ls)

-- those from place at of the file on
abbrev pub rest : List ℕ → ℕ → Bool → List Record
rest s at seen = reading seen (lines (drop at s))

-- THE records of a file, one for each line that is read
abbrev pub records : List ℕ → List Record
records s = rest s 0 false

-- the atom that a line gives, if it gives one: a line at fault gives none
abbrev pub atoms_in : Record → List AtomLine
atoms_in (AnAtom a) = a ∷ []
atoms_in (ASegment g) = []
atoms_in Skipped = []
atoms_in Short = []
atoms_in BadNumber = []

-- the atoms of some records, in their order
unfoldable pub atoms : List Record → List AtomLine
atoms [] = []
atoms (r ∷ rs) = atoms_in r ++ atoms rs

-- the segment that a line gives, if it gives one
abbrev pub segments_in : Record → List SegmentLine
segments_in (AnAtom a) = []
segments_in (ASegment g) = g ∷ []
segments_in Skipped = []
segments_in Short = []
segments_in BadNumber = []

-- the segments of some records, in their order
unfoldable pub segments : List Record → List SegmentLine
segments [] = []
segments (r ∷ rs) = segments_in r ++ segments rs

-- the names of the atoms' residues, and the letters of their chains, atom by atom
abbrev pub names : List AtomLine → List ℕ
names l = map (λ (a : AtomLine). a.name) l

abbrev pub letters : List AtomLine → List ℕ
letters l = map (λ (a : AtomLine). a.chain) l

-- 'ATOM .. of PDB format 3.3': a file's atoms; 'Segments, in file order'
abbrev pub atoms_of : List ℕ → List AtomLine
atoms_of s = atoms (records s)

abbrev pub segments_of : List ℕ → List SegmentLine
segments_of s = segments (records s)
