-- The refusals of every call: the number and the carried values of each (01, 'Refusal numbers'; 02 §1, §4 and §5, 'Refusals').
use Rattle.std.specs.Prelude.{ℕ, List, [], ◌∷◌, get_or, Result, Ok, Err}
use Rattle.job.specs.declared.Refusal.{Refusal}
use Rattle.job.specs.declared.Refusal.TheVariants.{BadLength, BadVersion, BadCounts, BadSize, BadVisibility, BadKind, BadAtom, BadCoordinate, NoScratch, TooManyVertices, NoRoom, ShortLine, BadNumber, AbsentResidue, PastLimits, NoJobRoom, Inconsistent, NoStlRoom, NotStl, BadShares}

-- the column 'No.'
abbrev pub number_of : Refusal → ℕ
number_of BadLength = 1
number_of (BadVersion v) = 2
number_of BadCounts = 3
number_of BadSize = 4
number_of (BadVisibility i) = 5
number_of (BadKind i) = 6
number_of (BadAtom i) = 7
number_of (BadCoordinate i) = 8
number_of NoScratch = 9
number_of TooManyVertices = 10
number_of (NoRoom k v t) = 11
number_of (ShortLine n) = 12
number_of (BadNumber n) = 13
number_of (AbsentResidue n) = 14
number_of PastLimits = 15
number_of (NoJobRoom n) = 16
number_of Inconsistent = 17
number_of (NoStlRoom n) = 18
number_of NotStl = 19
number_of BadShares = 20

-- the column 'Carries'
abbrev pub carried : Refusal → List ℕ
carried BadLength = 0 ∷ []
carried (BadVersion v) = v ∷ []
carried BadCounts = 0 ∷ []
carried BadSize = 0 ∷ []
carried (BadVisibility i) = i ∷ []
carried (BadKind i) = i ∷ []
carried (BadAtom i) = i ∷ []
carried (BadCoordinate i) = i ∷ []
carried NoScratch = 0 ∷ []
carried TooManyVertices = 0 ∷ []
carried (NoRoom k v t) = k ∷ v ∷ t ∷ []
carried (ShortLine n) = n ∷ []
carried (BadNumber n) = n ∷ []
carried (AbsentResidue n) = n ∷ []
carried PastLimits = 0 ∷ []
carried (NoJobRoom n) = n ∷ []
carried Inconsistent = 0 ∷ []
carried (NoStlRoom n) = n ∷ []
carried NotStl = 0 ∷ []
carried BadShares = 0 ∷ []

-- the first three values of a list, 0 where there is none
abbrev pub three : List ℕ → List ℕ
three l = get_or l 0 0 ∷ get_or l 1 0 ∷ get_or l 2 0 ∷ []

-- a refusal as four numbers, by which promises, programs and the calls for C say it: its own, and what it carries, with 0 where there is nothing
abbrev pub refusal_numbers : Refusal → List ℕ
refusal_numbers r = number_of r ∷ three (carried r)

-- an answer that is one number, the size of what was written or listed, as four: 0, the number, 0, 0; or a refusal's
abbrev pub size_numbers : Result ℕ Refusal → List ℕ
size_numbers (Ok n) = 0 ∷ n ∷ 0 ∷ 0 ∷ []
size_numbers (Err r) = refusal_numbers r
