use mathlib.Core.Path.{◌∙◌}
use Rattle.facets.specs.Facets.{one_normal}
use borrow.Author.Rules.{rules}
use Rattle.facets.proofs.list_normal.Goals as goal

pub returns : goal.returns
unfolding one_normal
returns c = c.put_vec.ensures ∙ rw c.vec_at.ensures
