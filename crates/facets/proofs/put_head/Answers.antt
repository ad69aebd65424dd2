use Prim.Native.Nat.{ℕ}
use mathlib.Core.Path.{refl}
use lib.ListN.{length-replicate}
use Rattle.numbers.proofs.Laws.{seq}
use Rattle.facets.specs.Facets.{stl_head}
use borrow.Author.Rules.{rules}
use Rattle.facets.proofs.put_head.Goals as goal

pub returns : goal.returns
unfolding stl_head
returns c = seq _ _ _ _ 80 _ _ (length-replicate {A = ℕ} 80 0) refl c.put_blank.ensures c.put_le32.ensures
