use Prim.Native.Nat.{◌≤◌, ◌-◌}
use mathlib.Core.Path.{◌≡◌, refl, ◌∙◌}
use native.Mathlib.Omega.{arith}
use Rattle.lists.specs.Put.{put, upto}
use Rattle.lists.proofs.Puts.{turn, kept}
use Rattle.facets.specs.Facets.{one_normal, one_corners, listed_normals, listed_corners}
use Rattle.facets.proofs.Laws.{long_normal, long_corners}
use borrow.Author.Rules.{rules}
use Rattle.facets.proofs.list_facets.Goals as goal

pub loop-i-init : goal.loop-i-init
unfolding put upto listed_corners listed_normals
loop-i-init c = (omega arith, refl, refl)

pub list_corners-requires : goal.list_corners-requires
list_corners-requires c = (omega (arith, c.requires.0), omega (arith, c.requires.1, kept _ _ _ c.loop-i.invariant.1))

pub list_normal-requires : goal.list_normal-requires
list_normal-requires c = (omega (arith, c.requires.0), omega (arith, c.requires.2, kept _ _ _ c.loop-i.invariant.2))

pub loop-i-preserved : goal.loop-i-preserved
unfolding listed_corners listed_normals
loop-i-preserved c =
    let now = c.args.file.now in
    (omega arith, turn (one_corners now) 9 (long_corners now) _ _ _ _ c.list_corners.ensures c.loop-i.invariant.1 (omega arith), turn (one_normal now) 3 (long_normal now) _ _ _ _ c.list_normal.ensures c.loop-i.invariant.2 (omega arith))

pub shape_of-corners : goal.shape_of-corners
shape_of-corners c = kept _ _ _ c.loop-i.invariant.1

pub shape_of-normals : goal.shape_of-normals
shape_of-normals c = kept _ _ _ c.loop-i.invariant.2

pub returns : goal.returns
returns c =
    let e : c.loop-i.i ≡ c.args.t = omega arith in
    (c.loop-i.invariant.1 ∙ rw e, c.loop-i.invariant.2 ∙ rw e)
