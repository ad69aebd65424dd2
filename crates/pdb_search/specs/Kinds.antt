-- Lines of a PDB file by what they tell a person of it. No answer of a call depends on them.
use Rattle.std.specs.Prelude.{ℕ, List, [], ◌∷◌, Bool, true, false, ◌&&◌, ◌||◌, cond, eqb, leb, length, drop}
use Rattle.pdb_lines.specs.Lines.{lines}
use Rattle.pdb_lines.specs.Columns.{column, named}
use Rattle.pdb_records.specs.Names.{ATOM, MODEL}
use Rattle.pdb_records.specs.Records.{line_kind, atom_of}
use Rattle.pdb_records.specs.declared.Kind.{Kind}
use Rattle.pdb_records.specs.declared.Kind.TheVariants.{Atom, Helix, Sheet, Model, Endmdl, Other}
use Rattle.pdb_records.specs.declared.Record.{Record}
use Rattle.pdb_records.specs.declared.Record.TheVariants.{Skipped, Short, BadNumber, AnAtom, ASegment}
use Rattle.pdb_file.specs.Reading.{stops, saw}
use Rattle.pdb_search.specs.declared.What.{What}
use Rattle.pdb_search.specs.declared.What.TheVariants.{Models, Ends, Alphas, Heteros, Misspelt, Items, Atoms}

-- "END", "HETATM", and the letters of the three records that are read
abbrev pub END : List ℕ
END = 69 ∷ 78 ∷ 68 ∷ []

abbrev pub HETATM : List ℕ
HETATM = 72 ∷ 69 ∷ 84 ∷ 65 ∷ 84 ∷ 77 ∷ []

abbrev pub atom_letters : List ℕ
atom_letters = 65 ∷ 84 ∷ 79 ∷ 77 ∷ []

abbrev pub helix_letters : List ℕ
helix_letters = 72 ∷ 69 ∷ 76 ∷ 73 ∷ 88 ∷ []

abbrev pub sheet_letters : List ℕ
sheet_letters = 83 ∷ 72 ∷ 69 ∷ 69 ∷ 84 ∷ []

-- "_atom_site": so begin the atoms of an mmCIF file
abbrev pub atom_site : List ℕ
atom_site = 95 ∷ 97 ∷ 116 ∷ 111 ∷ 109 ∷ 95 ∷ 115 ∷ 105 ∷ 116 ∷ 101 ∷ []

-- an atom line that is right and is a C-alpha's
abbrev pub is_alpha : Record → Bool
is_alpha (AnAtom a) = eqb a.role 1
is_alpha (ASegment g) = false
is_alpha Skipped = false
is_alpha Short = false
is_alpha BadNumber = false

-- the residue that such a line names
abbrev pub name_in : Record → ℕ
name_in (AnAtom a) = a.name
name_in (ASegment g) = 0
name_in Skipped = 0
name_in Short = 0
name_in BadNumber = 0

-- END by itself, or with a blank behind it
abbrev pub is_end : List ℕ → Bool
is_end l = named END 1 l && (leb (length l) 3 || eqb (column 4 l) 32)

abbrev pub is_other : Kind → Bool
is_other Atom = false
is_other Helix = false
is_other Sheet = false
is_other Model = false
is_other Endmdl = false
is_other Other = true

-- begins with the letters of a record that is read
abbrev pub has_letters : List ℕ → Bool
has_letters l = named atom_letters 1 l || (named helix_letters 1 l || named sheet_letters 1 l)

-- the same, and is no record, since all six columns of a record's name are compared
abbrev pub is_misspelt : List ℕ → Bool
is_misspelt l = has_letters l && is_other (line_kind l)

-- which lines are meant: MODEL lines, END lines, C-alphas in ATOM lines, C-alphas in HETATM lines, lines that were meant as a record and are none,
-- items of mmCIF, ATOM lines
unfoldable pub passes : What → List ℕ → Bool
passes Models l = named MODEL 1 l
passes Ends l = is_end l
passes Alphas l = named ATOM 1 l && is_alpha (atom_of l)
passes Heteros l = named HETATM 1 l && is_alpha (atom_of l)
passes Misspelt l = is_misspelt l
passes Items l = named atom_site 1 l
passes Atoms l = named ATOM 1 l

-- MODEL, END and ATOM lines and items are looked for in the whole file, the others among the lines that are read
abbrev pub everywhere : What → Bool
everywhere Models = true
everywhere Ends = true
everywhere Alphas = false
everywhere Heteros = false
everywhere Misspelt = false
everywhere Items = true
everywhere Atoms = true

-- the lines that are read: those 'until the first ENDMDL or a second MODEL'; seen: a MODEL line came before. What they say are the reader's records (`taken_read`)
unfoldable pub taken : Bool → List (List ℕ) → List (List ℕ)
taken seen [] = []
taken seen (l ∷ ls) = cond (stops seen (line_kind l)) [] (l ∷ taken (saw seen (line_kind l)) ls)

-- those that pass a test, in their order
unfoldable pub chosen : (List ℕ → Bool) → List (List ℕ) → List (List ℕ)
chosen t [] = []
chosen t (l ∷ ls) = cond (t l) (l ∷ chosen t ls) (chosen t ls)

-- the lines of a kind from place at of the file on
abbrev pub lines_from : What → List ℕ → ℕ → Bool → List (List ℕ)
lines_from w s at seen = chosen (passes w) (cond (everywhere w) (lines (drop at s)) (taken seen (lines (drop at s))))

-- THE lines of a kind
abbrev pub lines_of : What → List ℕ → List (List ℕ)
lines_of w s = lines_from w s 0 false
