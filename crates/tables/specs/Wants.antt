-- What a table by residue asks of a job: the first or the last atom of each residue that it wants.
use Rattle.std.specs.Prelude.{ℕ, zero, suc, ◌+◌, ◌≤◌, Bool, not, ◌&&◌, eqb}
use Rattle.lists.specs.Search.{first, last}
use Rattle.protein.specs.Layout.{none}
use Rattle.tables.specs.declared.Want.{Want}
use Rattle.tables.specs.declared.Want.TheVariants.{Chain, Alpha, SegmentAlpha, SegmentOxygen}
use Rattle.tables.specs.declared.Which.{Which}
use Rattle.tables.specs.declared.Which.TheVariants.{First, Last}
use Rattle.protein.specs.Job.{Job}
use Rattle.stretch.specs.Stretch.{inside}

-- which atoms a table by residue asks for: those with a chain; C-alphas (role 1); a segment's C-alphas; a segment's oxygens (role 2)
unfoldable pub wants : Job → Want → ℕ → Bool
wants J Chain a = not (eqb (J.chain a) none)
wants J Alpha a = eqb (J.role a) 1
wants J (SegmentAlpha g) a = eqb (J.role a) 1 && inside g (J.serial a)
wants J (SegmentOxygen g) a = eqb (J.role a) 2 && inside g (J.serial a)

-- the atoms of residue r that it asks for
unfoldable pub gives : Job → Want → ℕ → ℕ → Bool
gives J w r a = eqb (J.residue a) r && wants J w a

-- the first of them or the last, counted from 1; 0: there is none
unfoldable pub found : Which → (ℕ → Bool) → ℕ → ℕ
found First t n = first t n
found Last t n = last t n

-- one more than the chain of an atom counted from 1; 0 for no atom
abbrev pub code_at : Job → ℕ → ℕ
code_at J zero = 0
code_at J (suc a) = J.chain a + 1

-- 'Residue's chain: the last atom giving both': one more than the chain, and 0 for none, so that 'two residues with no chain share it'
unfoldable pub chain_of : Job → ℕ → ℕ
chain_of J r = code_at J (last (gives J Chain r) J.atoms)

-- no code of a chain is above C
abbrev pub Chained : Job → ℕ → Type 0
Chained J C = (r : ℕ) → chain_of J r ≤ C
