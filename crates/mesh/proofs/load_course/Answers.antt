use Rattle.mesh.proofs.Laws.{course_is}
use Rattle.mesh.proofs.load_course.Goals as goal

pub returns : goal.returns
returns c = course_is _ _ _ _ _ _ c.requires.alphas_len_bound.1 c.requires.alphas_len_bound.2 c.load.ensures c.load-2.ensures
