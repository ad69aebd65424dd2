use Rattle.std.proofs.Common.{arith, refl, sym}
use lib.Seq.{length-take-le}
use Rattle.model.proofs.send_facets.Goals as goal

pub loop-i-init : goal.loop-i-init
loop-i-init c = (refl, c.requires)

pub slice_bounds-write-end-in-loop-i : goal.slice_bounds-write-end-in-loop-i
slice_bounds-write-end-in-loop-i c = sym (length-take-le _ _ (omega (arith, c.put_block-n.ensures.2)))
