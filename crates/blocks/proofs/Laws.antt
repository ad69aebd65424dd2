-- How many facets a block has, and that the blocks make the file. Assumes nothing.
use Prim.Native.Nat.{ℕ, zero, suc, ◌+◌, ◌*◌, ◌-◌, ◌/◌, ◌<◌, ◌≤◌}
use mathlib.Core.Bool.{Bool, true, false}
use mathlib.Core.List.{List, ◌++◌}
use mathlib.Core.Path.{◌≡◌, refl, sym, ◌∙◌, ap, ap₂}
use native.Mathlib.Omega.{arith}
use lib.Dec.{ltb}
use lib.Ieee.{Float}
use lib.ListN.{length, get_or, take, drop, length-take, length-drop}
use borrow.Author.Tests.{ltb-true, ltb-false, lt-ltb, le-ltb}
use Rattle.lists.specs.Put.{put, upto}
use Rattle.lists.proofs.Any.{part_place}
use Rattle.facets.specs.Facets.{Drawn, facets_of, stl_head, stl_bytes}
use Rattle.facets.proofs.Laws.{long_facets, facets_front, facets_split}
use Rattle.blocks.specs.Blocks.{facets_in, corners_in, block_at, block_count}

-- a thousand where more are left
pub full_block : (t i : ℕ) → 1000 < t - 1000 * i → facets_in t i ≡ 1000
full_block t i h = rw (lt-ltb 1000 (t - 1000 * i) h) refl

-- and else all that are left
pub last_block : (t i : ℕ) → t - 1000 * i ≤ 1000 → facets_in t i ≡ t - 1000 * i
last_block t i h = rw (le-ltb 1000 (t - 1000 * i) h) refl

-- a part of a list of corners names no other vertices
pub drawn_part : (ps : List Float) (l : List ℕ) (a n : ℕ) → Drawn ps l → a + n ≤ length l → Drawn ps (take n (drop a l))
drawn_part ps l a n d f j h =
    let w : length (drop a l) ≡ length l - a = length-drop a l in
    let u : length (take n (drop a l)) ≡ n = omega (arith, length-take n (drop a l)) in
    let e : get_or (take n (drop a l)) j 0 ≡ get_or l (a + j) 0 = sym (part_place l a n j 0 refl (omega arith)) in
    rw e (d (a + j) (omega arith))

-- how long a block is
pub long_block : (ps : List Float) (l : List ℕ) (i : ℕ) → length (block_at ps l i) ≡ 50 * facets_in (length l / 3) i
unfolding block_at
long_block ps l i = long_facets ps (corners_in l i) (facets_in (length l / 3) i)

-- what was written is the block
pub block_made : (ps : List Float) (l b b' : List ℕ) (i n from to : ℕ) → n ≡ facets_in (length l / 3) i → from ≡ 3000 * i → to ≡ from + 3 * n → to ≤ length l
    → b' ≡ put b 0 (facets_of ps (take (to - from) (drop from l)) (length (take (to - from) (drop from l)) / 3)) → b' ≡ put b 0 (block_at ps l i)
unfolding block_at
block_made ps l b b' i n from to e f g h w =
    let m : to - from ≡ 3 * facets_in (length l / 3) i = omega (arith, ap (λ (x : ℕ). 3 * x) e) in
    let q : length (take (to - from) (drop from l)) / 3 ≡ facets_in (length l / 3) i = omega (arith, length-take (to - from) (drop from l), length-drop from l) in
    w ∙ rw (q, m, f) refl

-- the facets of block k are those behind a thousand for each block before it
pub block_behind : (ps : List Float) (l : List ℕ) (k : ℕ) → block_at ps l k ≡ facets_of ps (drop (3 * (1000 * k)) l) (facets_in (length l / 3) k)
unfolding block_at
block_behind ps l k =
    let q : 3000 * k ≡ 3 * (1000 * k) = omega arith in
    facets_front ps (drop (3000 * k) l) (facets_in (length l / 3) k) ∙ ap (λ (x : ℕ). facets_of ps (drop x l) (facets_in (length l / 3) k)) q

-- a block more, behind as many thousands as there are blocks before it
pub block_more : (ps : List Float) (l x : List ℕ) (k m : ℕ) → x ≡ facets_of ps l (1000 * k) → m ≡ 1000 * k + facets_in (length l / 3) k → x ++ block_at ps l k ≡ facets_of ps l m
block_more ps l x k m e q =
    ap₂ (λ (a b : List ℕ). a ++ b) e (block_behind ps l k) ∙ sym (facets_split ps l (1000 * k) (facets_in (length l / 3) k)) ∙ ap (facets_of ps l) (sym q)

-- how far a block reaches
pub reach : (t k m : ℕ) → 1000 * k < t → (1000 * suc k ≤ t → m ≡ 1000 * suc k) → (t ≤ 1000 * suc k → m ≡ t) → m ≡ 1000 * k + facets_in t k
reach t k m h a b = go (ltb 1000 (t - 1000 * k)) refl
  where
    go : (f : Bool) → ltb 1000 (t - 1000 * k) ≡ f → m ≡ 1000 * k + facets_in t k
    go true e = let u = ltb-true 1000 (t - 1000 * k) e in omega (arith, full_block t k u, a (omega arith))
    go false e = let u = ltb-false 1000 (t - 1000 * k) e in omega (arith, last_block t k u, b (omega arith))

-- the first k blocks are the facets that come before m: a thousand for each block, as far as there are so many
pub blocks_so_far : (ps : List Float) (l : List ℕ) (k m : ℕ) → k ≤ block_count (length l / 3) → (1000 * k ≤ length l / 3 → m ≡ 1000 * k)
    → (length l / 3 ≤ 1000 * k → m ≡ length l / 3) → upto (block_at ps l) k ≡ facets_of ps l m
unfolding upto facets_of
blocks_so_far ps l zero m h a b = rw (a (omega arith)) refl
blocks_so_far ps l (suc k) m h a b =
    let t : 1000 * k < length l / 3 = omega arith in
    block_more ps l (upto (block_at ps l) k) k m (blocks_so_far ps l k (1000 * k) (omega arith) (λ u. refl) (λ u. omega arith)) (reach (length l / 3) k m t a b)

-- all of them are the facets, and behind the head the file
pub all_blocks : (ps : List Float) (l : List ℕ) (t : ℕ) → t ≡ length l / 3 → stl_head t ++ upto (block_at ps l) (block_count t) ≡ stl_bytes ps l t
unfolding stl_bytes
all_blocks ps l t e =
    ap (λ (x : List ℕ). stl_head t ++ x)
    (ap (λ (n : ℕ). upto (block_at ps l) (block_count n)) e
    ∙ blocks_so_far ps l (block_count (length l / 3)) t (omega arith) (λ u. omega arith) (λ u. e))
