use Prim.Native.Nat.{◌-◌}
use native.Mathlib.Omega.{arith}
use lib.ListN.{length}
use Rattle.pdb_lines.specs.Post.{Plain}
use Rattle.pdb_lines.proofs.Search.{plain_start, plain_more}
use Rattle.pdb_lines.proofs.past_plain.Goals as goal

pub loop-i-init : goal.loop-i-init
loop-i-init c = plain_start _ _ c.requires

pub overflow_sub-s : goal.overflow_sub-s
overflow_sub-s c = omega (arith, c.loop-i.invariant.end)

pub least_byte-requires : goal.least_byte-requires
least_byte-requires c = omega (arith, c.loop-i-test.true, c.loop-i.invariant.end)

pub overflow_add-i : goal.overflow_add-i
overflow_add-i c = omega (arith, c.loop-i-test.true, c.loop-i.invariant.end)

pub loop-i-smaller : goal.loop-i-smaller
loop-i-smaller c = omega (arith, c.loop-i-test.true, c.loop-i.invariant.end)

pub loop-i-preserved : goal.loop-i-preserved
loop-i-preserved c = plain_more _ _ _ _ c.loop-i.invariant (omega (arith, c.loop-i-test.true, c.loop-i.invariant.end)) c.least_byte.ensures c.if-least_byte-gt13.true

pub returns-else-least_byte-gt13 : goal.returns-else-least_byte-gt13
returns-else-least_byte-gt13 c = c.loop-i.invariant

pub returns : goal.returns
returns c = c.loop-i.invariant
