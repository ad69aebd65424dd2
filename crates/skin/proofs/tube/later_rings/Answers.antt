use mathlib.Core.Path.{◌≡◌, ap}
use Prim.Native.Nat.{ℕ, ◌-◌, ◌+◌, ◌*◌, ◌%◌}
use native.Mathlib.Omega.{arith}
use Rattle.lists.specs.Put.{put, upto}
use Rattle.lists.proofs.Puts.{kept}
use Rattle.skin.specs.Tube.{ring_positions, ring_normals, ring_tags}
use Rattle.skin.proofs.Laws.{length_positions, length_normals, length_tags}
use Rattle.rings.proofs.Laws.{wrote_none, wrote_more, room}
use Rattle.skin.proofs.tube.later_rings.Goals as goal

pub loop-s-init : goal.loop-s-init
unfolding put upto
loop-s-init c = (omega arith, omega arith, wrote_none _ _ _ _ _)

pub span_rings-bounds-requires : goal.span_rings-bounds-requires
span_rings-bounds-requires c =
    let loop = c.loop-s in record { room = room _ _ _ _ _ loop.invariant.2 c.requires (loop.at + 8 * (8 - (loop.s + 1) % 8)) (omega arith); count_bound = (omega arith, omega arith) }

pub overflow_add-s : goal.overflow_add-s
overflow_add-s c = omega (arith, c.loop-s, c.loop-s-test, c)

pub overflow_mul-at : goal.overflow_mul-at
overflow_mul-at c = omega (arith, c.loop-s, c.loop-s-test, c)

pub overflow_add-at : goal.overflow_add-at
overflow_add-at c = omega (arith, c.loop-s, c.loop-s-test, c)

pub loop-s-smaller : goal.loop-s-smaller
loop-s-smaller c = omega (arith, c.loop-s, c.loop-s-test, c)

pub loop-s-preserved : goal.loop-s-preserved
loop-s-preserved c =
    let args = c.args in
    let loop = c.loop-s in
    let p = args.tube.now.points.now in
    let g = args.tube.now.guides.now in
    let n = args.tube.now.n in
    let kind = args.tube.now.kind in
    let first = args.tube.now.first in
    let s = loop.s in
    let step : (j : ℕ) → s + 1 + j ≡ s + j + 1 = λ j. omega arith in
    (omega (arith, loop, c.loop-s-test, c), omega (arith, loop, c.loop-s-test, c), wrote_more _ _ _ _ _ _ 8 (λ s. length_positions kind p g n (s + 1)) (λ s. length_normals kind p g n (s + 1)) (λ s. length_tags first n (s + 1)) _ _ s _ (λ j. ap (ring_positions kind p g n) (step j)) (λ j. ap (ring_normals kind p g n) (step j)) (λ j. ap (ring_tags first n) (step j)) c.span_rings-bounds.ensures loop.invariant.2 loop.invariant.1)

pub shape_of-positions : goal.shape_of-positions
shape_of-positions c = kept _ _ _ c.loop-s.invariant.2.pos

pub shape_of-normals : goal.shape_of-normals
shape_of-normals c = kept _ _ _ c.loop-s.invariant.2.norm

pub shape_of-tags : goal.shape_of-tags
shape_of-tags c = kept _ _ _ c.loop-s.invariant.2.tag

pub returns : goal.returns
returns c = let e : c.loop-s.s ≡ 8 * (c.args.tube.now.n - 1) - 1 = omega arith in
    rw e at c.loop-s.invariant.2
