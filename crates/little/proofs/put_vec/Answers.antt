use Prim.Native.Nat.{◌+◌}
use mathlib.Core.Path.{◌≡◌, refl}
use native.Mathlib.Omega.{arith}
use Rattle.numbers.proofs.Laws.{seq}
use Rattle.little.specs.Little.{le_vec}
use Rattle.little.proofs.Laws.{long32}
use borrow.Author.Rules.{rules}
use Rattle.little.proofs.put_vec.Goals as goal

pub returns : goal.returns
unfolding le_vec
returns c =
    let a = c.args.at in
    let h : a + 8 ≡ a + 4 + 4 = omega arith in
    seq _ _ _ _ 4 _ _ (long32 _) refl c.put_float.ensures (seq _ _ _ _ 4 _ _ (long32 _) h c.put_float-2.ensures c.put_float-3.ensures)
