use mathlib.Core.Bool.{true, false}
use Rattle.floats.proofs.RootBits.{same_no_nan}
use Rattle.floats.proofs.Written.{differs}
use Rattle.floats.proofs.Signs.{of_nan, of_test}
use Rattle.floats.proofs.greater_of.Goals as goal

pub returns-then-x : goal.returns-then-x
returns-then-x c = of_nan c.args.x c.args.y (differs c.args.x c.if-x.true)

pub returns-then-x-y : goal.returns-then-x-y
returns-then-x-y c = let a = c.args in of_test a.x a.y true (same_no_nan a.x c.if-x.false) c.if-x-y.true

pub returns : goal.returns
returns c = let a = c.args in of_test a.x a.y false (same_no_nan a.x c.if-x.false) c.if-x-y.false
