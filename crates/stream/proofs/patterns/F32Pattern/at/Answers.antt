use Rattle.stream.proofs.Laws.{pattern_no_nan}
use Rattle.stream.proofs.patterns.F32Pattern.at.Goals as goal

pub float_from_bits-result : goal.float_from_bits-result
float_from_bits-result c = pattern_no_nan c.args.i
