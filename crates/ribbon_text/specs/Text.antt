-- The lines that the program `ribbon-plan` prints, as ASCII codes (01, 'Program `ribbon-plan`').
use Rattle.std.specs.Prelude.{◌≡◌, ℕ, zero, suc, ◌+◌, ◌/◌, cond, List, [], ◌∷◌, ◌++◌, ltb, length}
use Rattle.lists.specs.Put.{put}
use Rattle.io.specs.Digits.{last_digits}
use Rattle.job.specs.Refusals.{number_of, carried}
use Rattle.job.specs.declared.Refusal.{Refusal}

-- how many decimal digits n has, for n of at most f + 1 digits
unfoldable pub width : ℕ → ℕ → ℕ
width zero n = 1
width (suc f) n = cond (ltb n 10) 1 (suc (width f (n / 10)))

-- a number of 64 bits in decimal digits
unfoldable pub decimal : ℕ → List ℕ
decimal n = last_digits 10 (width 19 n) n

-- a name or a blank, and a number behind it
unfoldable pub field : List ℕ → ℕ → List ℕ
field label n = label ++ decimal n

-- ' ', 'tubes ', ' vertices ', ' triangles '
abbrev pub blank_name : List ℕ
blank_name = 32 ∷ []

abbrev pub tubes_name : List ℕ
tubes_name = 116 ∷ 117 ∷ 98 ∷ 101 ∷ 115 ∷ 32 ∷ []

abbrev pub vertices_name : List ℕ
vertices_name = 32 ∷ 118 ∷ 101 ∷ 114 ∷ 116 ∷ 105 ∷ 99 ∷ 101 ∷ 115 ∷ 32 ∷ []

abbrev pub triangles_name : List ℕ
triangles_name = 32 ∷ 116 ∷ 114 ∷ 105 ∷ 97 ∷ 110 ∷ 103 ∷ 108 ∷ 101 ∷ 115 ∷ 32 ∷ []

-- 'tube ', ' kind ', ' residue ', ' length ', ' vertex ', ' triangle '
abbrev pub tube_name : List ℕ
tube_name = 116 ∷ 117 ∷ 98 ∷ 101 ∷ 32 ∷ []

abbrev pub kind_name : List ℕ
kind_name = 32 ∷ 107 ∷ 105 ∷ 110 ∷ 100 ∷ 32 ∷ []

abbrev pub residue_name : List ℕ
residue_name = 32 ∷ 114 ∷ 101 ∷ 115 ∷ 105 ∷ 100 ∷ 117 ∷ 101 ∷ 32 ∷ []

abbrev pub length_name : List ℕ
length_name = 32 ∷ 108 ∷ 101 ∷ 110 ∷ 103 ∷ 116 ∷ 104 ∷ 32 ∷ []

abbrev pub vertex_name : List ℕ
vertex_name = 32 ∷ 118 ∷ 101 ∷ 114 ∷ 116 ∷ 101 ∷ 120 ∷ 32 ∷ []

abbrev pub triangle_name : List ℕ
triangle_name = 32 ∷ 116 ∷ 114 ∷ 105 ∷ 97 ∷ 110 ∷ 103 ∷ 108 ∷ 101 ∷ 32 ∷ []

-- 'refused '
abbrev pub refused_name : List ℕ
refused_name = 114 ∷ 101 ∷ 102 ∷ 117 ∷ 115 ∷ 101 ∷ 100 ∷ 32 ∷ []

-- every line ends in LF
abbrev pub lf : List ℕ
lf = 10 ∷ []

-- 'The first line has totals'
unfoldable pub totals_line : ℕ → ℕ → ℕ → List ℕ
totals_line k v t = field tubes_name k ++ field vertices_name v ++ field triangles_name t ++ lf

-- 'then one line for each tube with its number and five words'
unfoldable pub tube_line : ℕ → ℕ → ℕ → ℕ → ℕ → ℕ → List ℕ
tube_line k a b c d e =
    field tube_name k ++ field kind_name a ++ field residue_name b ++ field length_name c ++ field vertex_name d ++ field triangle_name e ++ lf

-- each of a list of numbers, a blank before it
unfoldable pub listed : List ℕ → List ℕ
listed [] = []
listed (n ∷ ns) = field blank_name n ++ listed ns

-- '`refused`, the number and the carried values on one line, a blank between'
unfoldable pub refused_line : Refusal → List ℕ
refused_line r = field refused_name (number_of r) ++ listed (carried r) ++ lf

-- a buffer that held b holds the text from place at on, and end is the place behind it
abbrev pub Wrote : List ℕ → ℕ → List ℕ → List ℕ → ℕ → Type 0
Wrote b at text after end = (after ≡ put b at text) × (end ≡ at + length text)
