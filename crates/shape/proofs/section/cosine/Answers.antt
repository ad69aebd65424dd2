use mathlib.Core.Path.{refl}
use lib.Ieee.{nan_bits}
use Rattle.shape.specs.Ring.{cos_bits, cos_at}
use Rattle.shape.proofs.Table.{at, number}
use borrow.Author.Rules.{rules}
use Rattle.shape.proofs.section.cosine.Goals as goal

pub float_from_bits-result : goal.float_from_bits-result
unfolding number cos_bits nan_bits
float_from_bits-result c = at number cos_bits tt c.args.k (search rules)

pub returns : goal.returns
unfolding cos_at cos_bits
returns c = refl
