use Prim.Native.Nat.{◌+◌, ◌-◌}
use mathlib.Core.Path.{◌≡◌}
use native.Mathlib.Omega.{arith}
use borrow.Author.Rules.{rules}
use Rattle.pdb_records.proofs.residue_at.Goals as goal

pub returns : goal.returns
returns c = let e : c.args.number + 4 - 1 ≡ c.args.number + 3 = omega arith in rw e c.residue_in.ensures
