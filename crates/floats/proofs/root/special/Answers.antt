use mathlib.Core.Path.{sym, ap, ◌∙◌}
use native.Mathlib.Omega.{arith}
use lib.Ieee.{binary32, to_bits, of_bits}
use Prim.Native.Nat.{ℕ}
use Rattle.floats.specs.Floats.{root}
use Rattle.floats.proofs.RootBits.{at_inf, at_minus_zero, no_root}
use Rattle.floats.proofs.root.special.Goals as goal

pub returns-then-b-eq2139095040 : goal.returns-then-b-eq2139095040
returns-then-b-eq2139095040 c = c.if-b-eq2139095040.true ∙ at_inf ∙ ap (λ (x : ℕ). to_bits binary32 (root binary32 (of_bits binary32 x))) (sym c.if-b-eq2139095040.true)

pub returns-then-b-eq2147483648 : goal.returns-then-b-eq2147483648
returns-then-b-eq2147483648 c = c.if-b-eq2147483648.true ∙ at_minus_zero ∙ ap (λ (x : ℕ). to_bits binary32 (root binary32 (of_bits binary32 x))) (sym c.if-b-eq2147483648.true)

pub returns : goal.returns
returns c = no_root c.args.b (omega arith) (omega arith) c.if-b-eq2147483648.false
