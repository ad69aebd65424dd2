-- What the theorems of proofs/Demands say of two parties, in the words of 02 §5.
use Rattle.std.specs.Prelude.{ℕ, ◌+◌, ◌<◌, ◌≤◌, List, false, ◌⊎◌, ◌≡◌, length, get_or, Result, Ok}
use Rattle.protein.specs.Layout.{head_of}
use Rattle.job.specs.Check.{shared_sizes, check_shared}
use Rattle.buffers.specs.declared.Counts.{Counts}
use Rattle.job.specs.declared.Refusal.{Refusal}
use Rattle.buffers.specs.Outs.{Outs, sizes_of}
use Rattle.shares.specs.declared.Share.{Share}
use Rattle.shares.specs.declared.Shares.{Shares}
use Rattle.shares.specs.Shares.{bad_shares, share_of}
use Rattle.room.specs.Room.{Scratch, Buffers}
use Rattle.party_promises.specs.Calls.{BuildsShare}

-- ---- of a job and records

-- bytes, as every slice of u8 holds
abbrev pub AllBytes : List ℕ → Type 0
AllBytes s = (i : ℕ) → get_or s i 0 < 256

-- 'one shared job with S = 0', past checks 1 to 4, with records that are whole and not above 65,535
abbrev pub Shared : List ℕ → List ℕ → Type 0
Shared s q = shared_sizes s (length q) ≡ Ok (head_of s)

-- and past 5 to 8
abbrev pub PassesShared : List ℕ → List ℕ → Type 0
PassesShared s q = check_shared s q ≡ Ok (head_of s)

-- ---- of shares

-- they pass 20
abbrev pub GoodShares : Outs → Shares → Shares → Type 0
GoodShares o m k = bad_shares (sizes_of o) m k ≡ false

-- what a party sees: its shares of the buffers, and the scratch
abbrev pub in_share : Shares → Buffers → Buffers
in_share m b = record { outs = share_of m b.outs; scratch = b.scratch }

-- 'shares no shorter'
pub record NoShorterShares (m n : Shares) : Type 0 where
  pub positions : m.positions.len ≤ n.positions.len
  pub normals : m.normals.len ≤ n.normals.len
  pub tags : m.tags.len ≤ n.tags.len
  pub triangles : m.triangles.len ≤ n.triangles.len
  pub tubes : m.tubes.len ≤ n.tubes.len
  pub boxes : m.boxes.len ≤ n.boxes.len

-- place i is outside a share
abbrev pub OutsideOf : Share → ℕ → Type 0
OutsideOf s i = (i < s.start) ⊎ (s.start + s.len ≤ i)

-- two contents of a buffer are as long, and the same in every place outside a share
pub record SameOutside {A : Type 0} (s : Share) (l l' : List A) : Type 0 where
  pub long : length l' ≡ length l
  pub same : (i : ℕ) (d : A) → OutsideOf s i → get_or l' i d ≡ get_or l i d

-- of all six
pub record Outside (m : Shares) (o o' : Outs) : Type 0 where
  pub positions : SameOutside m.positions o.positions o'.positions
  pub normals : SameOutside m.normals o.normals o'.normals
  pub tags : SameOutside m.tags o.tags o'.tags
  pub triangles : SameOutside m.triangles o.triangles o'.triangles
  pub tubes : SameOutside m.tubes o.tubes o'.tubes
  pub boxes : SameOutside m.boxes o.boxes o'.boxes

-- ---- 'any calls of the other given those same shares'

abbrev pub at : Outs → Scratch → Buffers
at o c = record { outs = o; scratch = c }

-- a party whose shares are m, where k are the other's, made calls one after the other, any number of them, refused or not: of any job s and any records q, with a
-- scratch of its own or the same one. The buffers held o before the first, and o' after the last
pub data Called (m k : Shares) : Outs → Outs → Type 0 where
  none : (o o' : Outs) → o ≡ o' → Called m k o o'
  then : (s q : List ℕ) (c c' : Scratch) (r : Result Counts Refusal) (o p o' : Outs) → BuildsShare s q m k (at o c) r (at p c') → Called m k p o' → Called m k o o'
