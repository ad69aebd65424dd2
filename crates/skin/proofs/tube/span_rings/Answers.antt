use mathlib.Core.Path.{◌≡◌}
use Prim.Native.Nat.{◌-◌, ◌+◌}
use native.Mathlib.Omega.{arith}
use Rattle.lists.specs.Put.{upto}
use Rattle.lists.proofs.Puts.{kept}
use Rattle.shape.specs.Ring.{cross_section}
use Rattle.curve.specs.Samples.{ring_at}
use Rattle.rings.proofs.Laws.{wrote_none, wrote_turn, room}
use Rattle.skin.specs.Tube.{ring_positions, ring_normals, ring_tags}
use Rattle.skin.proofs.Laws.{on_span, length_positions, length_normals, length_tags}
use Rattle.skin.proofs.tube.span_rings.Goals as goal

pub loop-j-init : goal.loop-j-init
unfolding upto
loop-j-init c = (omega arith, omega arith, wrote_none _ _ _ _ _)

pub spokes_at-own-requires : goal.spokes_at-own-requires
spokes_at-own-requires c =
    let r = c.args.tube.now.course in
    (r.two, r.most, omega (arith, c.loop-j, c.loop-j-test, c), r.same)

pub tag_at-requires : goal.tag_at-requires
tag_at-requires c =
    let r = c.args.tube.now.course in
    (r.two, omega (arith, c.loop-j, c.loop-j-test, c), r.low)

pub put_sides-bounds-requires : goal.put_sides-bounds-requires
put_sides-bounds-requires c =
    let s = c.loop-j in
    room _ _ _ _ _ s.invariant.2 c.requires.room (s.at + 8) (omega (arith, s, c.loop-j-test, c))

pub overflow_add-at : goal.overflow_add-at
overflow_add-at c = omega (arith, c.loop-j, c.loop-j-test, c)

pub loop-j-preserved : goal.loop-j-preserved
unfolding ring_positions ring_normals ring_tags ring_at cross_section
loop-j-preserved c =
    let a = c.args in
    let loop = c.loop-j in
    let p = a.tube.now.points.now in
    let g = a.tube.now.guides.now in
    let f = on_span p g a.tube.now.n a.from loop.j (omega (arith, loop, c.loop-j-test, c)) c.requires.count_bound.1 c.span-q.ensures c.get_vec-a.ensures c.get_vec-b.ensures c.param_at-t.ensures c.between.ensures c.frame-f.ensures in
    (omega (arith, loop, c.loop-j-test, c), omega (arith, loop), wrote_turn _ _ _ 8 (λ j. length_positions a.tube.now.kind p g a.tube.now.n (a.from + j)) (λ j. length_normals a.tube.now.kind p g a.tube.now.n (a.from + j)) (λ j. length_tags a.tube.now.first a.tube.now.n (a.from + j)) _ _ loop.j (rw (c.spokes_at-own.ensures, f, c.tag_at.ensures) at c.put_sides-bounds.ensures) loop.invariant.2 loop.invariant.1)

pub shape_of-positions : goal.shape_of-positions
shape_of-positions c = kept _ _ _ c.loop-j.invariant.2.pos

pub shape_of-normals : goal.shape_of-normals
shape_of-normals c = kept _ _ _ c.loop-j.invariant.2.norm

pub shape_of-tags : goal.shape_of-tags
shape_of-tags c = kept _ _ _ c.loop-j.invariant.2.tag

pub returns : goal.returns
returns c =
    let e : c.loop-j.j ≡ c.args.count = omega arith in
    rw e at c.loop-j.invariant.2
