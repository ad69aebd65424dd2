use mathlib.Core.Path.{sym}
use native.Mathlib.Omega.{arith}
use Rattle.std.proofs.lemmas.Result.{err_from_is_err_and}
use Rattle.job.proofs.Laws.{check_whole}
use Rattle.job.proofs.Accepted.{accepted}
use Rattle.promises.proofs.Kept.{plans_refused, plans_passed}
use Rattle.ribbon.proofs.Laws.{chained, records_few_as, planned_as}
use Rattle.ribbon.proofs.plan.Goals as goal

pub records-requires : goal.records-requires
records-requires c = check_whole _ _ (sym c.in_ok-h.ensures)

pub plan_checked-requires : goal.plan_checked-requires
plan_checked-requires c =
    let e = sym c.in_ok-h.ensures in
    (check_whole _ _ e, chained _ _ _ (accepted _ _ e), records_few_as _ _ _ (check_whole _ _ e) c.records.ensures (λ i. omega (arith, c.type_inv.b i)))

pub returns-in_err-h : goal.returns-in_err-h
returns-in_err-h c = let p = err_from_is_err_and c.from_residual.result c.from_residual.ensures.1 in rw (p.1, p.2) (plans_refused _ _ _ _ (sym c.in_err-h.ensures))

pub returns : goal.returns
returns c =
    let f = c.plan_checked.ensures in
    let r = c.records.ensures in
    plans_passed _ _ (sym c.in_ok-h.ensures) _ _ _ _ (planned_as _ _ _ _ _ _ _ r f.0) f.1
