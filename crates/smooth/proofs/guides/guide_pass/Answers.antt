use mathlib.Core.Path.{ap, ◌∙◌}
use Prim.Native.Nat.{◌+◌, ◌-◌}
use native.Mathlib.Omega.{arith}
use Rattle.vectors.specs.Vec.{vec_at}
use Rattle.shape.specs.Guide.{smooth_guide}
use Rattle.smooth.proofs.Laws.{turned_none, turned_long, turned_more, guides_done}
use Rattle.smooth.proofs.guides.guide_pass.Goals as goal

pub loop-i-init : goal.loop-i-init
loop-i-init c = (omega arith, turned_none smooth_guide _ 0 _ c.get_vec-prev.ensures)

pub get_vec-here-requires : goal.get_vec-here-requires
get_vec-here-requires c = omega (arith, turned_long c.loop-i.invariant.1)

pub get_vec-next-requires : goal.get_vec-next-requires
get_vec-next-requires c = omega (arith, turned_long c.loop-i.invariant.1)

pub put_vec-requires : goal.put_vec-requires
put_vec-requires c = omega (arith, turned_long c.loop-i.invariant.1)

pub loop-i-preserved : goal.loop-i-preserved
loop-i-preserved c =
    let loop = c.loop-i in
    (omega arith, turned_more loop.i (loop.i + 1) loop.invariant.1 c.get_vec-here.ensures (c.get_vec-next.ensures ∙ ap (vec_at loop.list) c.after.ensures.0) c.smooth_guide-smoothed.ensures c.put_vec.ensures (omega arith) (omega arith))

pub shape_of-list : goal.shape_of-list
shape_of-list c = turned_long c.loop-i.invariant.1

pub returns : goal.returns
returns c = guides_done c.loop-i.invariant.1 (omega arith) c.requires.1
