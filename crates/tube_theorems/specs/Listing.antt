-- What the theorems about a job's list of tubes say, in words of their own.
use Rattle.std.specs.Prelude.{ℕ, suc, ◌+◌, ◌<◌, ◌≤◌, List, [], ◌∷◌, map, Bool, false, ◌≡◌, ◌⊎◌, length, get_or}
use Rattle.tables.specs.Wants.{chain_of}
use Rattle.protein.specs.Job.{Job, Segments}
use Rattle.stretch.specs.Stretch.{range}
use Rattle.tubes.specs.Frames.{chosen}
use Rattle.tubes.specs.Lists.{Each, Consecutive}
use Rattle.tubes.specs.Pieces.{pieces, apart}
use Rattle.tubes.specs.Tubes.{Tube, alpha_of, frames, gap, covered, loose, joins, extended}
use Rattle.tubes.specs.declared.Source.{Source}
use Rattle.tubes.specs.declared.Source.TheVariants.{Coils, Segment}
use Rattle.mesh.specs.Mesh.{first_of, size_of}

-- P of every two neighbours of a list
abbrev pub Neighbours : (ℕ → ℕ → Type 0) → List ℕ → Type 0
Neighbours P l = (i : ℕ) → suc i < length l → P (get_or l i 0) (get_or l (suc i) 0)

-- where a tube comes from: one of the segments, with that segment's serials and kind, or the coils, of kind 0
abbrev pub Known : Segments → Source → ℕ → Type 0
Known G Coils kind = kind ≡ 0
Known G (Segment i g) kind = (i < G.count) × (g ≡ range G i) × (kind ≡ G.kind i)

-- what every tube of a job's list is
pub record Proper (J : Job) (G : Segments) (far : ℕ → ℕ → Bool) (u : Tube) : Type 0 where
  pub known : Known G u.source u.kind
  pub two : 2 ≤ size_of u
  pub most : size_of u ≤ J.residues
  pub below : Each (λ r. r < J.residues) u.residues
  pub consecutive : Consecutive u.residues
  pub chain : Each (λ r. chain_of J r ≡ chain_of J (first_of u)) u.residues
  pub placed : Each (λ r. 0 < alpha_of J u.source r) u.residues
  pub near : Neighbours (λ x y. gap J far u.source x y ≡ false) u.residues

-- 'Visible segments come in job order .. Then coils': the place of a tube's source in that order
abbrev pub turn_in : Segments → Source → ℕ
turn_in G Coils = G.count
turn_in G (Segment i g) = i

abbrev pub turn_of : Segments → Tube → ℕ
turn_of G u = turn_in G u.source

-- u stands before v: its source comes first, or both have one source and u's first residue comes first
abbrev pub Before : Segments → Tube → Tube → Type 0
Before G u v = (turn_of G u < turn_of G v) ⊎ ((u.source ≡ v.source) × (first_of u < first_of v))

-- P of every tube of a list
abbrev pub Every : (Tube → Type 0) → List Tube → Type 0
Every P [] = Unit
Every P (u ∷ us) = P u × Every P us

-- each tube of a list stands so to every later one
abbrev pub InOrder : (Tube → Tube → Type 0) → List Tube → Type 0
InOrder B [] = Unit
InOrder B (u ∷ us) = Every (B u) us × InOrder B us

-- the frames of all tubes of a list
unfoldable pub frame_sum : List Tube → ℕ
frame_sum [] = 0
frame_sum (u ∷ us) = size_of u + frame_sum us

-- 'cut the same way into runs; each run gains its neighbour before and after': the coils' runs, extended
unfoldable pub coil_runs : Job → (ℕ → Bool) → List (List ℕ)
coil_runs J cov = map (extended (joins J cov)) (pieces (apart (chain_of J)) (chosen (loose J cov) J.residues))

-- P of every list of a list
abbrev pub EachList : (List ℕ → Type 0) → List (List ℕ) → Type 0
EachList P [] = Unit
EachList P (l ∷ ls) = P l × EachList P ls

-- two tests of a step agree between neighbouring frames 'in every segment and extended coil run' (02 §13)
pub record SameCuts (J : Job) (G : Segments) (far far' : ℕ → ℕ → Bool) : Type 0 where
  pub segments : (i : ℕ) → i < G.count
      → Neighbours (λ x y. gap J far (Segment i (range G i)) x y ≡ gap J far' (Segment i (range G i)) x y) (frames J (range G i))
  pub coils : EachList (Neighbours (λ x y. gap J far Coils x y ≡ gap J far' Coils x y)) (coil_runs J (covered J G))
