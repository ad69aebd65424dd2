use mathlib.Core.Path.{◌≡◌, sym, ap, ◌∙◌, subst}
use mathlib.Core.Bool.{true}
use lib.Dec.{T}
use lib.Ieee.{Float, binary32, of_bits, to_bits, fits}
use lib.Ieee.Bits.{of_bits-to_bits}
use Rattle.floats.specs.Floats.{root}
use Rattle.floats.proofs.RootBits.{same_no_nan}
use Rattle.floats.proofs.Written.{no_nan_of, value_of, nan_of, zero_over_zero, bits_nan, root_fits, root_nan, differs}
use Rattle.floats.proofs.root.square_root.Goals as goal

held : (x : Float) → fits binary32 x ≡ true → T (fits binary32 x)
held x e = subst T (sym e) tt

back : (x : Float) → T (fits binary32 x) → to_bits binary32 (root binary32 (of_bits binary32 (to_bits binary32 x))) ≡ to_bits binary32 (root binary32 x)
back x t = ap (λ (y : Float). to_bits binary32 (root binary32 y)) (of_bits-to_bits binary32 x t)

pub returns-then-x : goal.returns-then-x
returns-then-x c = zero_over_zero ∙ sym (ap (root binary32) (differs c.args.x c.if-x.true) ∙ root_nan binary32)

pub float_to_bits-x : goal.float_to_bits-x
float_to_bits-x c = same_no_nan c.args.x c.if-x.false

pub returns-then-r-eq2143289344 : goal.returns-then-r-eq2143289344
returns-then-r-eq2143289344 c =
    let p = c.args.x in
    zero_over_zero ∙ sym (nan_of binary32 (root binary32 p) (root_fits binary32 p (held p c.well_formed.0.1)) (sym (c.root_bits-r.ensures ∙ back p (held p c.well_formed.0.1)) ∙ c.if-r-eq2143289344.true ∙ sym bits_nan))

pub float_from_bits-result : goal.float_from_bits-result
float_from_bits-result c =
    let p = c.args.x in
    no_nan_of binary32 (root binary32 p) c.root_bits-r.result (root_fits binary32 p (held p c.well_formed.0.1)) (c.root_bits-r.ensures ∙ back p (held p c.well_formed.0.1)) (λ e. c.if-r-eq2143289344.false (e ∙ bits_nan))

pub returns : goal.returns
returns c =
    let p = c.args.x in
    value_of binary32 (root binary32 p) c.root_bits-r.result (root_fits binary32 p (held p c.well_formed.0.1)) (c.root_bits-r.ensures ∙ back p (held p c.well_formed.0.1))
