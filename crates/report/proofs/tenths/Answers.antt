use Rattle.std.proofs.Common.{T, sym, subst, rules}
use lib.Ieee.{of_bits, neg}
use Rattle.report.proofs.tenths.Goals as goal

pub truncating_f32_to_u64-requires : goal.truncating_f32_to_u64-requires
unfolding of_bits neg
truncating_f32_to_u64-requires c = record { lower_bound = subst T (sym c.if-y.true) tt; upper_bound = subst T (sym c.if-y-2.true) tt }
