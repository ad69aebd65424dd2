use mathlib.Core.Path.{sym, ◌∙◌}
use Rattle.job.proofs.Laws.{check_whole}
use Rattle.model.proofs.refuse_job.Goals as goal

pub tell_file-requires : goal.tell_file-requires
tell_file-requires c = check_whole _ _ (sym c.check_job-a.ensures ∙ c.in-Ok.is)
