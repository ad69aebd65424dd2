use mathlib.Core.Path.{◌≡◌, refl, ◌∙◌, ap}
use Rattle.facets.proofs.Laws.{long_at, facet_made}
use Prim.Native.Nat.{◌≤◌, ◌-◌, ◌+◌, ◌*◌, ◌/◌}
use mathlib.Core.Path.{◌≡◌, refl, ◌∙◌}
use lib.ListN.{length}
use native.Mathlib.Omega.{arith}
use Rattle.lists.specs.Put.{put, upto}
use Rattle.lists.proofs.Puts.{turn, kept}
use Rattle.facets.specs.Facets.{facet_at, facets_of}
use Rattle.facets.proofs.Laws.{long_at}
use borrow.Author.Rules.{rules}
use Rattle.facets.proofs.put_facets.Goals as goal

pub loop-i-init : goal.loop-i-init
unfolding put upto facets_of
loop-i-init c = (omega arith, refl, refl)

pub corner-a-requires : goal.corner-a-requires
corner-a-requires c = omega (arith, c.loop-i.invariant.1)

pub corner-b-requires : goal.corner-b-requires
corner-b-requires c = omega (arith, c.loop-i.invariant.1)

pub corner-c-requires : goal.corner-c-requires
corner-c-requires c = omega (arith, c.loop-i.invariant.1)

pub put_facet-requires : goal.put_facet-requires
put_facet-requires c = omega (arith, c.requires, c.loop-i.invariant.1, kept _ _ _ c.loop-i.invariant.2)

pub loop-i-preserved : goal.loop-i-preserved
unfolding facets_of
loop-i-preserved c =
    let args = c.args in
    let loop = c.loop-i in
    (omega arith, loop.invariant.1, turn (facet_at args.d.now.positions.now args.d.now.triangles.now) 50 (long_at args.d.now.positions.now args.d.now.triangles.now) _ _ _ _ (c.put_facet.ensures ∙ ap (put loop.out (args.at + 50 * loop.i)) (facet_made args.d.now.positions.now args.d.now.triangles.now loop.i _ _ _ c.corner-a.ensures c.corner-b.ensures c.corner-c.ensures)) loop.invariant.2 (omega arith))

pub shape_of-out : goal.shape_of-out
shape_of-out c = kept _ _ _ c.loop-i.invariant.2

pub returns : goal.returns
returns c =
    let e : c.loop-i.i ≡ length c.args.d.now.triangles.now / 3 = omega (arith, c.loop-i.invariant.1) in
    c.loop-i.invariant.2 ∙ rw e
