use mathlib.Core.Path.{sym, subst, ◌∙◌}
use mathlib.Core.Bool.{true}
use mathlib.Core.Path.{◌≡◌}
use lib.Dec.{T}
use lib.Ieee.{Float, binary32, fits, of_bits}
use Rattle.floats.proofs.Signs.{zero_is, below_zero, at_zero, above_zero}
use Rattle.floats.proofs.magnitude_of.Goals as goal

held : (x : Float) → fits binary32 x ≡ true → T (fits binary32 x)
held x e = subst T (sym e) tt

pub returns-then-x : goal.returns-then-x
unfolding of_bits
returns-then-x c = below_zero c.args.x c.if-x.true

pub returns-then-x-2 : goal.returns-then-x-2
unfolding of_bits
returns-then-x-2 c = zero_is ∙ at_zero binary32 c.args.x (held c.args.x c.well_formed.0.1) c.if-x-2.true

pub returns : goal.returns
unfolding of_bits
returns c = above_zero c.args.x (held c.args.x c.well_formed.0.1) c.if-x.false c.if-x-2.false
