use mathlib.Core.Path.{◌≡◌, refl, sym}
use lib.ListN.{length}
use lib.Seq.{length-take-le}
use native.Mathlib.Omega.{arith}
use borrow.Author.Rules.{rules}
use Rattle.serve.proofs.pass_over.Goals as goal

pub loop-bytes-init : goal.loop-bytes-init
loop-bytes-init c = refl

pub overflow_sub-left : goal.overflow_sub-left
overflow_sub-left c = omega arith

pub loop-bytes-smaller : goal.loop-bytes-smaller
loop-bytes-smaller c = omega arith

pub slice_bounds-fill-end : goal.slice_bounds-fill-end
slice_bounds-fill-end c = omega arith

pub slice_bounds-fill-end-2 : goal.slice_bounds-fill-end-2
slice_bounds-fill-end-2 c = sym (length-take-le _ _ (omega arith))
