use Rattle.job.proofs.Laws.{sizes_whole, check_refused, check_contents_of}
use mathlib.Core.Path.{sym, ◌∙◌}
use Rattle.std.proofs.lemmas.Result.{err_from_is_err_and}
use Rattle.job.proofs.check_job.Goals as goal

pub records-requires : goal.records-requires
records-requires c = sizes_whole _ _ (sym c.in_ok-h.ensures)

pub check_contents-requires : goal.check_contents-requires
check_contents-requires c = sizes_whole _ _ (sym c.in_ok-h.ensures)

pub returns-in_err-h : goal.returns-in_err-h
returns-in_err-h c = let p = err_from_is_err_and c.from_residual.result c.from_residual.ensures.1 in rw (p.1, p.2) (sym (check_refused _ _ (sym c.in_err-h.ensures)))

pub returns : goal.returns
returns c = c.check_contents.ensures ∙ rw c.records.ensures (sym (check_contents_of _ _ (sym c.in_ok-h.ensures)))
