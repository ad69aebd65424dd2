use mathlib.Core.Path.{sym, ap, ◌∙◌}
use Prim.Native.Nat.{ℕ}
use lib.Ieee.{binary32, to_bits, of_bits}
use Rattle.floats.specs.Floats.{root}
use Rattle.floats.proofs.RootBits.{at_zero, between_is}
use Rattle.floats.proofs.root.root_bits.Goals as goal

pub near_one-requires : goal.near_one-requires
near_one-requires c = between_is c.args.b (sym c.is_near_one.ensures ∙ c.if-is_near_one.true)

pub returns-then-b-eq0 : goal.returns-then-b-eq0
returns-then-b-eq0 c = at_zero ∙ ap (λ (x : ℕ). to_bits binary32 (root binary32 (of_bits binary32 x))) (sym c.if-b-eq0.true)
