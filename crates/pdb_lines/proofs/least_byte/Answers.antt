use Prim.Native.Nat.{ℕ, ◌+◌, ◌≤◌, ◌<◌, ◌-◌}
use native.Mathlib.Omega.{arith}
use lib.ListN.{get_or}
use borrow.Author.Rules.{rules}
use Rattle.pdb_lines.proofs.Search.{bound_more}
use Rattle.pdb_lines.proofs.least_byte.Goals as goal

pub loop-k-init : goal.loop-k-init
loop-k-init c = (omega arith, λ j h. absurd (omega arith))

pub loop-k-preserved : goal.loop-k-preserved
loop-k-preserved c = (omega arith, bound_more c.args.s.now c.args.i c.loop-k.k _ _ c.loop-k.invariant.1 (omega arith) (omega arith))

pub returns : goal.returns
returns c = λ k h. c.loop-k.invariant.1 k (omega (arith, c.loop-k-test.false))
