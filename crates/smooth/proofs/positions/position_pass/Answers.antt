use mathlib.Core.Path.{ap, sym, ◌∙◌}
use Prim.Native.Nat.{◌+◌, ◌-◌}
use native.Mathlib.Omega.{arith}
use Rattle.vectors.specs.Vec.{vec_at}
use Rattle.shape.specs.Guide.{smooth_position}
use Rattle.smooth.proofs.Laws.{after_inner, turned_none, turned_long, turned_more, positions_done}
use Rattle.smooth.proofs.positions.position_pass.Goals as goal

pub loop-i-init : goal.loop-i-init
loop-i-init c = (omega arith, omega arith, turned_none smooth_position _ 1 _ c.get_vec-prev.ensures)

pub get_vec-here-requires : goal.get_vec-here-requires
get_vec-here-requires c = omega (arith, turned_long c.loop-i.invariant.2)

pub get_vec-next-requires : goal.get_vec-next-requires
get_vec-next-requires c = omega (arith, turned_long c.loop-i.invariant.2)

pub put_vec-requires : goal.put_vec-requires
put_vec-requires c = omega (arith, turned_long c.loop-i.invariant.2)

pub loop-i-preserved : goal.loop-i-preserved
loop-i-preserved c =
    let loop = c.loop-i in
    (omega arith, omega arith, turned_more loop.i (loop.i + 1 - 1) loop.invariant.2 c.get_vec-here.ensures (c.get_vec-next.ensures ∙ ap (vec_at loop.list) (sym (after_inner c.args.n loop.i (omega arith)))) c.smooth_position-smoothed.ensures c.put_vec.ensures (omega arith) (omega arith))

pub shape_of-list : goal.shape_of-list
shape_of-list c = turned_long c.loop-i.invariant.2

pub returns : goal.returns
returns c = positions_done c.loop-i.invariant.2 (omega arith) c.requires.1
