use mathlib.Core.Path.{sym, ◌∙◌}
use lib.Ieee.{binary32, binary64, of_bits}
use Rattle.floats.specs.Floats.{narrowed}
use Rattle.floats.proofs.Written.{no_nan_of, value_of, nan_of, zero_over_zero, bits_nan, narrowed_fits}
use Rattle.floats.proofs.narrow.narrow.Goals as goal

pub returns-then-r-eq2143289344 : goal.returns-then-r-eq2143289344
returns-then-r-eq2143289344 c = zero_over_zero ∙ sym (nan_of binary32 (narrowed binary32 (of_bits binary64 c.args.b)) (narrowed_fits binary32 (of_bits binary64 c.args.b)) (sym c.narrow_bits-r.ensures ∙ c.if-r-eq2143289344.true ∙ sym bits_nan))

pub float_from_bits-result : goal.float_from_bits-result
float_from_bits-result c = no_nan_of binary32 (narrowed binary32 (of_bits binary64 c.args.b)) c.narrow_bits-r.result (narrowed_fits binary32 (of_bits binary64 c.args.b)) c.narrow_bits-r.ensures (λ e. c.if-r-eq2143289344.false (e ∙ bits_nan))

pub returns : goal.returns
returns c = value_of binary32 (narrowed binary32 (of_bits binary64 c.args.b)) c.narrow_bits-r.result (narrowed_fits binary32 (of_bits binary64 c.args.b)) c.narrow_bits-r.ensures
