use Rattle.floats.proofs.Written.{nan_pattern, plain_pattern}
use Rattle.floats.proofs.bits.float_of.Goals as goal

pub returns-then-w-gt2139095040 : goal.returns-then-w-gt2139095040
returns-then-w-gt2139095040 c = nan_pattern c.args.w c.if-w-gt2139095040.true

pub float_from_bits-result : goal.float_from_bits-result
float_from_bits-result c = plain_pattern c.args.w c.if-w-gt2139095040.false
