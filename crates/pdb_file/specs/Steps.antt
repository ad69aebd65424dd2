-- What a step of a walk over a file promises: the next record, and where the walk goes on.
use Rattle.std.specs.Prelude.{ℕ, ◌-◌, ◌<◌, List, [], ◌∷◌, ◌≡◌, length, Option, Some, None}
use Rattle.std.specs.Iterator.{Count, at_most}
use Rattle.pdb_file.specs.Reading.{rest, records}
use Rattle.pdb_file.specs.declared.walk.Walk.{Walk}
use Rattle.pdb_records.specs.declared.Record.{Record}

-- the records that are left of a walk
abbrev pub left : Walk → List Record
left w = rest w.text.now w.at w.seen

-- they are no more than bytes are left
abbrev pub bytes_left : Walk → Count
bytes_left w = at_most (length w.text.now - w.at)

-- what was left is r and then what is left now, of the same file
pub record Onward (w : Walk) (r : Record) (w' : Walk) : Type 0 where
  pub is : left w ≡ r ∷ left w'
  pub text : w'.text.now ≡ w.text.now
  pub more : w.at < w'.at

-- the answer of a step, from w to w'
abbrev pub Stepped : Walk → Option Record → Walk → Type 0
Stepped w None w' = left w ≡ []
Stepped w (Some r) w' = Onward w r w'

-- a walk over the file s from its first line on
pub record Begins (s : List ℕ) (w : Walk) : Type 0 where
  pub all : left w ≡ records s
  pub text : w.text.now ≡ s
  pub at : w.at ≡ 0
