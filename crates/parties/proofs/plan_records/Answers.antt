use Rattle.std.proofs.lemmas.Result.{err_from_is_err_and}
use mathlib.Core.Path.{sym}
use Rattle.job.proofs.Laws.{shared_whole}
use Rattle.job.proofs.Accepted.{shared_accepted}
use Rattle.ribbon.proofs.Laws.{chained}
use Rattle.party_promises.proofs.Kept.{records_refused, records_kept}
use Rattle.parties.proofs.plan_records.Goals as goal

pub plan_checked-requires : goal.plan_checked-requires
plan_checked-requires c =
    let e = sym c.in_ok-h.ensures in
    let w = shared_whole _ _ _ e in
    (w.0, chained _ _ _ (shared_accepted _ _ _ e), w.3)

pub returns-in_err-h : goal.returns-in_err-h
returns-in_err-h c = let p = err_from_is_err_and c.from_residual.result c.from_residual.ensures.1 in rw (p.1, p.2) (records_refused _ _ _ _ _ (sym c.in_err-h.ensures))

pub returns : goal.returns
returns c =
    let f = c.plan_checked.ensures in
    records_kept _ _ _ (sym c.in_ok-h.ensures) _ _ _ _ f.0 f.1
