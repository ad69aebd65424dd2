use native.Mathlib.Omega.{arith}
use Rattle.floats.proofs.Squares.{sq_le, near_le}
use Rattle.floats.proofs.root.nearest_root.Goals as goal

pub overflow_mul-s : goal.overflow_mul-s
overflow_mul-s c = omega (arith, sq_le c.args.start (omega arith))

pub returns : goal.returns
returns c = omega (arith, near_le c.args.n c.args.start (omega arith) c.if-n-start.false)
