use Prim.Native.Nat.{◌≤◌, ◌-◌, ◌+◌}
use mathlib.Core.Path.{◌≡◌, refl}
use native.Mathlib.Omega.{arith}
use lib.ListN.{length, drop}
use borrow.Author.Tests.{eq-eqb, ne_eqb}
use borrow.Author.Rules.{rules}
use Rattle.pdb_fields.specs.Numbers.{run, is_blank}
use Rattle.pdb_fields.proofs.Laws.{stop_over, stop_no, run_turn}
use Rattle.pdb_fields.proofs.past_blanks.Goals as goal

pub loop-k-init : goal.loop-k-init
loop-k-init c = (omega arith, omega arith, refl)

pub returns-then-l-k-ne32 : goal.returns-then-l-k-ne32
returns-then-l-k-ne32 c = (stop_no is_blank _ _ _ c.loop-k.invariant.2 c.loop-k-test.true (ne_eqb _ _ c.if-l-k-ne32.true), omega arith)

pub loop-k-preserved : goal.loop-k-preserved
loop-k-preserved c = (omega arith, omega arith, run_turn is_blank _ _ _ c.loop-k.invariant.2 c.loop-k-test.true (eq-eqb _ _ c.if-l-k-ne32.false))

pub returns : goal.returns
returns c = (let e : length c.args.l.now ≡ c.loop-k.k = omega arith in rw e (stop_over is_blank _ _ _ c.loop-k.invariant.2 (omega arith)), omega arith)
