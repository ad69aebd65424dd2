use mathlib.Core.Path.{refl}
use lib.Ieee.{nan_bits}
use Rattle.shape.specs.Ring.{sin_bits, sin_at}
use Rattle.shape.proofs.Table.{at, number}
use borrow.Author.Rules.{rules}
use Rattle.shape.proofs.section.sine.Goals as goal

pub float_from_bits-result : goal.float_from_bits-result
unfolding number sin_bits nan_bits
float_from_bits-result c = at number sin_bits tt c.args.k (search rules)

pub returns : goal.returns
unfolding sin_at sin_bits
returns c = refl
