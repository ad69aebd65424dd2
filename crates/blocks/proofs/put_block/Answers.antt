use Prim.Native.Nat.{◌+◌, ◌*◌, ◌-◌}
use mathlib.Core.Path.{refl}
use lib.ListN.{drop, length-take, length-drop}
use native.Mathlib.Omega.{arith}
use borrow.Author.Rules.{rules}
use Rattle.blocks.proofs.Laws.{drawn_part, block_made, long_block}
use Rattle.blocks.proofs.put_block.Goals as goal

pub invariant_of-part : goal.invariant_of-part
invariant_of-part c =
    let a = c.args in
    let n = c.facets_in-n.result in
    let f = 3000 * a.i in
    let g = 3000 * a.i + 3 * n in
    record { drawn = drawn_part a.d.now.positions.now a.d.now.triangles.now f (g - f) a.d.now.drawn (omega (arith, c.facets_in-n.ensures.2)) }

pub put_facets-requires : goal.put_facets-requires
put_facets-requires c =
    let a = c.args in
    let n = c.facets_in-n.result in
    let f = 3000 * a.i in
    let g = 3000 * a.i + 3 * n in
    let e = c.facets_in-n.ensures in
    let l = a.d.now.triangles.now in
    omega (arith, length-take (g - f) (drop f l), length-drop f l, e.2, e.1)

pub returns : goal.returns
returns c =
    let a = c.args in
    let e = c.facets_in-n.ensures in (
      block_made a.d.now.positions.now a.d.now.triangles.now _ _ a.i _ _ _ e.0 refl refl (omega (arith, e.2)) c.put_facets.ensures,
      omega (arith, e.0, long_block a.d.now.positions.now a.d.now.triangles.now a.i),
      omega (arith, e.1),
    )
