use Prim.Native.Nat.{ℕ}
use lib.ListN.{length-replicate}
use Rattle.appearance.proofs.Holding.{empty_index}
use borrow.Author.Rules.{rules}
use Rattle.breaks.proofs.tell.Goals as goal

pub list_names-requires : goal.list_names-requires
list_names-requires c = empty_index _ (length-replicate {A = ℕ} 16384 0)
