use mathlib.Core.Path.{refl}
use Rattle.coordinates.proofs.Laws.{zero_bits, not_nan, not_nan_neg, plus, minus}
use borrow.Author.Rules.{rules}
use Rattle.coordinates.proofs.coordinate_bits.Goals as goal

pub returns-then-size-eq0 : goal.returns-then-size-eq0
returns-then-size-eq0 c = zero_bits _ _ c.if-size-eq0.true

pub float_to_bits-result : goal.float_to_bits-result
float_to_bits-result c = not_nan_neg _ _ c.ranges.size.fits refl

pub returns-then-minus : goal.returns-then-minus
returns-then-minus c = minus _ _ c.ranges.size.fits refl _ c.if-minus.true c.if-size-eq0.false

pub float_to_bits-result-2 : goal.float_to_bits-result-2
float_to_bits-result-2 c = not_nan _ _ c.ranges.size.fits refl

pub returns : goal.returns
returns c = plus _ _ c.ranges.size.fits refl _ c.if-minus.false
