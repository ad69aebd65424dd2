use Rattle.floats.proofs.RootBits.{same_no_nan}
use Rattle.floats.proofs.Written.{nan_word}
use Rattle.floats.proofs.bits.float_word.Goals as goal

pub returns-then-x : goal.returns-then-x
returns-then-x c = nan_word c.args.x c.if-x.true

pub float_to_bits-result : goal.float_to_bits-result
float_to_bits-result c = same_no_nan c.args.x c.if-x.false
