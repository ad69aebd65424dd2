-- Where a segment's atoms stand in the job: no part of 01's list, only of how the tables find it without reading every atom for every segment.
use Rattle.std.specs.Prelude.{ℕ, ◌<◌, ◌≤◌, Bool, true, false, ◌&&◌, ◌≡◌, leb}
use Rattle.protein.specs.Job.{Job, Segments}
use Rattle.stretch.specs.declared.Range.{Range}
use Rattle.stretch.specs.declared.Order.{Order}
use Rattle.stretch.specs.declared.Part.{Part}

-- f never goes down from m up to, and without, n
abbrev pub Up : (ℕ → ℕ) → ℕ → ℕ → Type 0
Up f m n = (i j : ℕ) → m ≤ i → i ≤ j → j < n → f i ≤ f j

-- from atom m up to, and without, n none has a serial below that of one before it
pub record Run (J : Job) (m n : ℕ) : Type 0 where
  pub order : m ≤ n
  pub few : n ≤ J.atoms
  pub up : Up J.serial m n

-- two runs, the second where the first ends
pub record Orders (J : Job) (o : Order) : Type 0 where
  pub first : Run J 0 o.first
  pub second : Run J o.first o.second

-- of the numbers from m up to n those before r are below v, and the others are not
pub record Splits (f : ℕ → ℕ) (m n v r : ℕ) : Type 0 where
  pub low : m ≤ r
  pub few : r ≤ n
  pub below : (a : ℕ) → m ≤ a → a < r → f a < v
  pub above : (a : ℕ) → r ≤ a → a < n → v ≤ f a

-- segment i's serials
abbrev pub range : Segments → ℕ → Range
range G i = record { start = G.start i; stop = G.stop i }

-- 'serials from start to end inclusive'
unfoldable pub inside : Range → ℕ → Bool
inside g v = leb g.start v && leb v g.stop

-- no atom from one number up to another has a serial in the range
abbrev pub Outside : Job → Range → ℕ → ℕ → Type 0
Outside J g from to = (a : ℕ) → from ≤ a → a < to → inside g (J.serial a) ≡ false

-- k is one of the numbers of the part
abbrev pub In : Part → ℕ → Type 0
In p k = (p.from ≤ k) × (k < p.to)

-- a part of the atoms from m up to n, in which those with a serial in a range stand
pub record Holds (J : Job) (g : Range) (m n : ℕ) (p : Part) : Type 0 where
  pub low : m ≤ p.from
  pub from : p.from ≤ n
  pub to : p.to ≤ n
  pub all : (a : ℕ) → m ≤ a → a < n → inside g (J.serial a) ≡ true → In p a

-- a part of the atoms in which every atom with a serial in a range stands
pub record Reaches (J : Job) (g : Range) (p : Part) : Type 0 where
  pub from : p.from ≤ J.atoms
  pub to : p.to ≤ J.atoms
  pub all : (a : ℕ) → a < J.atoms → inside g (J.serial a) ≡ true → In p a

-- a part of the residues in which the residue of every atom of the part p stands, if it has one
pub record Spans (J : Job) (p q : Part) : Type 0 where
  pub order : q.from ≤ q.to
  pub to : q.to ≤ J.residues
  pub all : (a : ℕ) → In p a → J.residue a < J.residues → In q (J.residue a)

-- the residue of every atom below a that a test takes stands in the part q, if it has one
abbrev pub Met : Job → (ℕ → Bool) → ℕ → Part → Type 0
Met J t a q = (k : ℕ) → k < a → t k ≡ true → J.residue k < J.residues → In q (J.residue k)

-- the atoms in the range
abbrev pub ranged : Job → Range → ℕ → Bool
ranged J g k = inside g (J.serial k)

-- q has every number of p, and r if that is below n; its ends are those of p, or r
pub record Widened (p : Part) (n r : ℕ) (q : Part) : Type 0 where
  pub low : (m : ℕ) → m ≤ p.from → (r < n → m ≤ r) → m ≤ q.from
  pub high : (m : ℕ) → p.to ≤ m → (r < n → r < m) → q.to ≤ m
  pub keeps : (k : ℕ) → In p k → In q k
  pub has : r < n → In q r
