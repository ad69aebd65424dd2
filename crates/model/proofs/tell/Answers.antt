use mathlib.Core.Path.{sym, ◌∙◌}
use Rattle.job.proofs.Laws.{check_whole}
use Rattle.model.proofs.tell.Goals as goal

pub tell_model-requires : goal.tell_model-requires
tell_model-requires c = check_whole _ _ (sym c.check_job-a.ensures ∙ c.in-Ok.is)
