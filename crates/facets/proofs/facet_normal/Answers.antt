use Rattle.facets.proofs.Laws.{normal_is}
use borrow.Author.Rules.{rules}
use Rattle.facets.proofs.facet_normal.Goals as goal

pub returns : goal.returns
returns c =
    let args = c.args in
    normal_is args.a args.b args.c c.sub.ensures c.sub-2.ensures c.cross.ensures c.normalised.ensures
