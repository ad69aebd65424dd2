use Prim.Native.Nat.{◌*◌}
use mathlib.Core.Path.{sym}
use lib.ListN.{length-take}
use lib.Seq.{length-take-le}
use native.Mathlib.Omega.{arith}
use borrow.Author.Rules.{rules}
use Rattle.model.proofs.finish.Goals as goal

pub slice_bounds-tell-end : goal.slice_bounds-tell-end
slice_bounds-tell-end c = let a = c.args in sym (length-take-le (5 * a.c.tubes) a.tubes.now c.requires.0.records)

pub slice_bounds-tell-end-2 : goal.slice_bounds-tell-end-2
slice_bounds-tell-end-2 c = let a = c.args in sym (length-take-le (6 * a.c.tubes) a.boxes.now c.requires.0.sides)

pub slice_bounds-send_model-end-2 : goal.slice_bounds-send_model-end-2
slice_bounds-send_model-end-2 c = let a = c.args in sym (length-take-le (3 * a.c.vertices) a.positions.now c.requires.0.vertices)

pub slice_bounds-send_model-end-3 : goal.slice_bounds-send_model-end-3
slice_bounds-send_model-end-3 c = let a = c.args in sym (length-take-le (3 * a.c.triangles) a.triangles.now c.requires.0.corners)

pub send_model-requires : goal.send_model-requires
send_model-requires c = let a = c.args in (c.requires.0.drawn, omega (arith, length-take (3 * a.c.triangles) a.triangles.now, c.requires.0.few), c.requires.1)
