use Prim.Native.Nat.{◌-◌}
use lib.ListN.{length}
use native.Mathlib.Omega.{arith}
use borrow.Author.Rules.{rules}
use Rattle.pdb_notes.proofs.Gathering.{Gathering}
use Rattle.pdb_notes.proofs.left_out.gather.Given as goal

abbrev pub invariant-loop-p : goal.invariant-loop-p
invariant-loop-p l = Gathering l.w l.s l.initial.keys l.initial.links l.n l.keys l.links l.at l.seen l.m

abbrev pub decreases-loop-p : goal.decreases-loop-p
decreases-loop-p l = length l.s - l.at
