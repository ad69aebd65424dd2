use Prim.Native.Nat.{ℕ, ◌*◌}
use Rattle.scaling.specs.Scale.{within}
use native.Mathlib.Omega.{arith}
use mathlib.Core.Path.{sym, ap, ◌∙◌}
use Rattle.scaling.proofs.Laws.{ten_up, product_small, long_bad, factor_bad, factor_good}
use borrow.Author.Rules.{rules}
use Rattle.scaling.proofs.factor_in.Goals as goal

pub returns-then-l-gt8 : goal.returns-then-l-gt8
returns-then-l-gt8 c = long_bad _ c.if-l-gt8.true

pub digits-all-requires : goal.digits-all-requires
digits-all-requires c = (omega arith, omega arith, ten_up _ _ _ c.digits-whole.ensures.1)

pub overflow_mul-all : goal.overflow_mul-all
overflow_mul-all c =
    let d = c.digits-all in
    omega (arith, product_small d.result.value d.result.next c.tens.result d.ensures.1 (omega (arith, d.ensures.0.within)) c.tens.ensures.1)

pub returns-then-is_formed : goal.returns-then-is_formed
returns-then-is_formed c =
    let d = c in
    c.within.ensures
    ∙ ap (λ (n : ℕ). within (c.digits-all.result.value * n)) c.tens.ensures.0
    ∙ factor_good c.args.l.now _ _ _ _ _ c.digits-whole.ensures.0 c.lead_at-point.ensures.0 c.digits-all.ensures.0
    (sym c.is_formed.ensures ∙ c.if-is_formed.true)

pub returns : goal.returns
returns c =
    let d = c in
    factor_bad c.args.l.now _ _ _ _ _ c.digits-whole.ensures.0 c.lead_at-point.ensures.0 c.digits-all.ensures.0
    (sym c.is_formed.ensures ∙ c.if-is_formed.false)
