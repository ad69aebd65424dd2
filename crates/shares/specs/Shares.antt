-- The shares that two parties have of the six output buffers. 02 §5: 'each party has its own segment records and a share of every output buffer'. A share is
-- a start and a length, in places of its buffer; both are numbers with no upper end here, so a sum of them never wraps.
use Rattle.std.specs.Prelude.{ℕ, ◌+◌, ◌≤◌, ◌≡◌, ◌⊎◌, Bool, ◌&&◌, ◌||◌, List, ◌++◌, length, take, drop, ltb}
use Rattle.shares.specs.declared.Share.{Share}
use Rattle.shares.specs.declared.Shares.{Shares}
use Rattle.buffers.specs.Outs.{Outs, outs, Sizes, sizes}

-- ---- one buffer

-- 'a share of .. [an] output buffer': its places, from start on
unfoldable pub part : {A : Type 0} → Share → List A → List A
part s l = take s.len (drop s.start l)

-- the buffer l with xs in the place of the share; every other place is as it was
unfoldable pub within : {A : Type 0} → Share → List A → List A → List A
within s l xs = take s.start l ++ (xs ++ drop s.len (drop s.start l))

-- a share 'leave[s] a buffer' of n places. An empty one may stand at its end, and not past it
unfoldable pub leaves : ℕ → Share → Bool
leaves n s = ltb n (s.start + s.len)

-- two 'shares overlap': some place is in both. An empty share overlaps nothing, and neither do two that touch
unfoldable pub meets : Share → Share → Bool
meets a b = ltb 0 a.len && (ltb 0 b.len && (ltb a.start (b.start + b.len) && ltb b.start (a.start + a.len)))

-- in a buffer of n places, '20 shares overlap or leave a buffer'
unfoldable pub bad_share : ℕ → Share → Share → Bool
bad_share n a b = leaves n a || (leaves n b || meets a b)

-- what it means that they do not overlap: one is empty, or one ends before the other starts
abbrev pub Clear : Share → Share → Type 0
Clear a b = (a.len ≡ 0) ⊎ ((b.len ≡ 0) ⊎ ((a.start + a.len ≤ b.start) ⊎ (b.start + b.len ≤ a.start)))

-- ---- 'every output buffer'

-- '20 shares overlap or leave a buffer', for buffers of these lengths, one party's shares and the other's
unfoldable pub bad_shares : Sizes → Shares → Shares → Bool
bad_shares n m k =
    bad_share n.positions m.positions k.positions
    || (bad_share n.normals m.normals k.normals
    || (bad_share n.tags m.tags k.tags
    || (bad_share n.triangles m.triangles k.triangles
    || (bad_share n.tubes m.tubes k.tubes
    || bad_share n.boxes m.boxes k.boxes))))

-- what a party's shares hold: to it, the six buffers
unfoldable pub share_of : Shares → Outs → Outs
share_of m o =
    outs
    (part m.positions o.positions)
    (part m.normals o.normals)
    (part m.tags o.tags)
    (part m.triangles o.triangles)
    (part m.tubes o.tubes)
    (part m.boxes o.boxes)

-- the buffers o with x in the place of a party's shares
unfoldable pub with_share : Shares → Outs → Outs → Outs
with_share m o x =
    outs
    (within m.positions o.positions x.positions)
    (within m.normals o.normals x.normals)
    (within m.tags o.tags x.tags)
    (within m.triangles o.triangles x.triangles)
    (within m.tubes o.tubes x.tubes)
    (within m.boxes o.boxes x.boxes)

-- how many places each share has
abbrev pub share_sizes : Shares → Sizes
share_sizes m = sizes m.positions.len m.normals.len m.tags.len m.triangles.len m.tubes.len m.boxes.len

-- each share lies in its buffer
pub record Fits (m : Shares) (o : Outs) : Type 0 where
  pub positions : m.positions.start + m.positions.len ≤ length o.positions
  pub normals : m.normals.start + m.normals.len ≤ length o.normals
  pub tags : m.tags.start + m.tags.len ≤ length o.tags
  pub triangles : m.triangles.start + m.triangles.len ≤ length o.triangles
  pub tubes : m.tubes.start + m.tubes.len ≤ length o.tubes
  pub boxes : m.boxes.start + m.boxes.len ≤ length o.boxes

-- in no buffer do the shares of the two overlap
pub record Apart (m k : Shares) : Type 0 where
  pub positions : Clear m.positions k.positions
  pub normals : Clear m.normals k.normals
  pub tags : Clear m.tags k.tags
  pub triangles : Clear m.triangles k.triangles
  pub tubes : Clear m.tubes k.tubes
  pub boxes : Clear m.boxes k.boxes
