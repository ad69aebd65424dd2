use mathlib.Core.Path.{sym, ◌∙◌}
use Rattle.std.proofs.lemmas.Result.{err_from_is_err_and}
use Rattle.job.proofs.Laws.{sizes_whole, shared_refused, shared_unshared, shared_contents}
use Rattle.job.proofs.check_shared.Goals as goal

pub returns-then-is_unshared : goal.returns-then-is_unshared
returns-then-is_unshared c = sym (shared_unshared _ _ _ (sym c.in_ok-h.ensures) (sym c.if-is_unshared.ensures))

pub check_contents-requires : goal.check_contents-requires
check_contents-requires c = sizes_whole _ _ (sym c.in_ok-h.ensures)

pub returns-in_err-h : goal.returns-in_err-h
returns-in_err-h c = let p = err_from_is_err_and c.from_residual.result c.from_residual.ensures.1 in rw (p.1, p.2) (sym (shared_refused _ _ _ (sym c.in_err-h.ensures)))

pub returns : goal.returns
returns c = c.check_contents.ensures ∙ sym (shared_contents _ _ _ (sym c.in_ok-h.ensures) (sym c.if-is_unshared.ensures))
