-- A table by residue in the scratch.
use Rattle.std.specs.Prelude.{ℕ, ◌+◌, ◌-◌, ◌<◌, ◌≤◌, Bool, false, not, eqb, List, ◌≡◌, get_or}
use Rattle.tables.specs.declared.Which.{Which}
use Rattle.tables.specs.declared.Which.TheVariants.{First, Last}
use Rattle.tables.specs.Wants.{chain_of, wants, gives, found}
use Rattle.protein.specs.Job.{Job}
use Rattle.tables.specs.declared.Want.TheVariants.{SegmentAlpha, SegmentOxygen}
use Rattle.scratch.specs.Scratch.{Both}
use Rattle.stretch.specs.declared.Range.{Range}
use Rattle.stretch.specs.declared.Part.{Part}
use Rattle.stretch.specs.Stretch.{In, Met}

-- an entry stays when a later atom is asked for: the first stays, the last gives way
unfoldable pub keeps : Which → ℕ → Bool
keeps First v = not (eqb v 0)
keeps Last v = false

abbrev pub Chains : Job → List ℕ → Type 0
Chains J t = (r : ℕ) → r < J.residues → get_or t r 0 ≡ chain_of J r

-- among the first a atoms, for each residue of the part q: its last C-alpha in the range, in the table at `alphas`, and where the tables are full its last
-- oxygen, in the one at `oxygens`; the places before the two and behind them are as they were in t₀
abbrev pub Noted : Job → Range → Bool → ℕ → Part → ℕ → ℕ → List ℕ → List ℕ → Type 0
Noted J g full a q alphas oxygens t₀ t =
    Both full (λ r. found Last (gives J (SegmentAlpha g) (q.from + r)) a) (λ r. found Last (gives J (SegmentOxygen g) (q.from + r)) a)
    (alphas + q.from) (oxygens + q.from) (q.to - q.from) t₀ t

-- the same, and the residues of the C-alphas noted stand in a part p of q
pub record Filling (J : Job) (g : Range) (full : Bool) (q : Part) (alphas oxygens : ℕ) (t₀ t : List ℕ) (p : Part) (a : ℕ) : Type 0 where
  pub noted : Noted J g full a q alphas oxygens t₀ t
  pub from : q.from ≤ p.from
  pub to : p.to ≤ q.to
  pub met : Met J (wants J (SegmentAlpha g)) a p

-- a part p of the part q of the residues, in which those of the C-alphas in the range stand too
pub record Narrowed (J : Job) (g : Range) (q p : Part) : Type 0 where
  pub order : p.from ≤ p.to
  pub among : (r : ℕ) → In p r → In q r
  pub to : p.to ≤ q.to
  pub met : Met J (wants J (SegmentAlpha g)) J.atoms p
