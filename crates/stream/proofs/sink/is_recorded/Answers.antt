use native.Mathlib.Omega.{arith}
use mathlib.Core.Path.{sym}
use lib.ListN.{length-append}
use lib.Seq.{length-take-le}
use borrow.Author.Rules.{rules}
use Rattle.stream.proofs.sink.is_recorded.Goals as goal

pub slice_bounds-read_full-end : goal.slice_bounds-read_full-end
slice_bounds-read_full-end c = sym (length-take-le _ _ (omega arith))

pub slice_bounds-there-end-2 : goal.slice_bounds-there-end-2
slice_bounds-there-end-2 c = simp length-append (omega arith)

pub slice_bounds-same-end : goal.slice_bounds-same-end
slice_bounds-same-end c = sym (length-take-le _ _ (simp length-append (omega arith)))
