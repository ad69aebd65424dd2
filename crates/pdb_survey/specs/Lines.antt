-- What a walk over the lines tells of faults before any residue is known.
use Rattle.std.specs.Prelude.{ℕ, ◌+◌, List, [], ◌∷◌, cond, length, Option, Some, None, is_none}
use Rattle.pdb_records.specs.declared.Record.{Record}
use Rattle.pdb_records.specs.declared.Record.TheVariants.{Skipped, Short, BadNumber, AnAtom, ASegment}
use Rattle.pdb_file.specs.Reading.{segments_in}
use Rattle.std.specs.Option.{option_or}
use Rattle.pdb_file.specs.declared.Fault.{Fault}
use Rattle.pdb_file.specs.declared.Fault.TheVariants.{LineShort, LineWrong}

-- the fault that line n has by itself: 12 or 13, or none
abbrev pub own_fault : ℕ → Record → Option Fault
own_fault n Skipped = None
own_fault n Short = Some (LineShort n)
own_fault n BadNumber = Some (LineWrong n)
own_fault n (AnAtom a) = None
own_fault n (ASegment g) = None

-- the first of these, from line n on
unfoldable pub own_faults : ℕ → List Record → Option Fault
own_faults n [] = None
own_faults n (r ∷ rs) = option_or (own_fault n r) (own_faults (n + 1) rs)

-- how many segments stand before it; all of them where no line has such a fault
unfoldable pub ahead : List Record → ℕ
ahead [] = 0
ahead (r ∷ rs) = cond (is_none (own_fault 1 r)) (length (segments_in r) + ahead rs) 0

-- 1 for a segment that stands before the first fault
abbrev pub segments_counted : Option Fault → Record → ℕ
segments_counted f r = cond (is_none f) (length (segments_in r)) 0
