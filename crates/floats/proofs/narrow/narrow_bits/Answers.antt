use mathlib.Core.Path.{◌∙◌, sym}
use mathlib.Core.Bool.{true, false}
use native.Mathlib.Omega.{arith}
use lib.Dec.{le→leb}
use lib.Arith.{lt→nleb}
use lib.Ieee.Bits.{is_true, is_false}
use native.Mathlib.Nat.{zero-add, add_comm}
use lib.Dec.{leb}
use Rattle.floats.proofs.Narrows.{is_nan, joined}
use Rattle.floats.proofs.narrow.narrow_bits.Goals as goal

pub returns-then-a-gt9218868437227405312 : goal.returns-then-a-gt9218868437227405312
returns-then-a-gt9218868437227405312 c = is_nan c.args.b c.if-a-gt9218868437227405312.true

pub overflow_cast-result : goal.overflow_cast-result
overflow_cast-result c = omega arith

pub returns-then-b-lt9223372036854775808 : goal.returns-then-b-lt9223372036854775808
returns-then-b-lt9223372036854775808 c = let b = c.args.b in sym (zero-add c.magnitude-r.result) ∙ joined b c.magnitude-r.result false (is_false (leb 0x8000_0000_0000_0000 b) (lt→nleb 0x8000_0000_0000_0000 b c.if-b-lt9223372036854775808.true)) c.magnitude-r.ensures.1

pub overflow_add-result : goal.overflow_add-result
overflow_add-result c = omega arith

pub overflow_cast-result-2 : goal.overflow_cast-result-2
overflow_cast-result-2 c = omega arith

pub returns : goal.returns
returns c = let b = c.args.b in add_comm c.magnitude-r.result 0x8000_0000 ∙ joined b c.magnitude-r.result true (is_true (leb 0x8000_0000_0000_0000 b) (le→leb 0x8000_0000_0000_0000 b c.if-b-lt9223372036854775808.false)) c.magnitude-r.ensures.1
