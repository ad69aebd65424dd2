-- The residues of a PDB file that are left out of its job, since their C-alphas stand in HETATM lines. No answer of a call depends on it: it is what a person is told.
use Rattle.std.specs.Prelude.{ℕ, List, ◌++◌, map, length}
use Rattle.appearance.specs.Order.{order}
use Rattle.pdb_records.specs.Records.{atom_of}
use Rattle.pdb_search.specs.Kinds.{name_in, lines_of}
use Rattle.pdb_search.specs.declared.What.TheVariants.{Alphas, Heteros}

-- the residues that some lines name, line by line
abbrev pub names_of : List (List ℕ) → List ℕ
names_of ls = map (λ (l : List ℕ). name_in (atom_of l)) ls

-- how many residues have a C-alpha in ATOM lines
abbrev pub modelled : List ℕ → ℕ
modelled s = length (order (names_of (lines_of Alphas s)))

-- how many have one in ATOM or HETATM lines: those beyond the former are left out of the job
abbrev pub resolved : List ℕ → ℕ
resolved s = length (order (names_of (lines_of Alphas s) ++ names_of (lines_of Heteros s)))
