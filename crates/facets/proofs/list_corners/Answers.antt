use Rattle.facets.proofs.Laws.{corners_made}
use borrow.Author.Rules.{rules}
use Rattle.facets.proofs.list_corners.Goals as goal

pub returns : goal.returns
returns c = corners_made c.args.file.now c.args.i _ _ _ _ _ _ _ c.vec_at.ensures c.vec_at-2.ensures c.vec_at-3.ensures c.put_vec.ensures c.put_vec-2.ensures c.put_vec-3.ensures
