use Rattle.curve.proofs.Laws.{laid_guides}
use Rattle.curve.proofs.residues.lay_guides.Goals as goal

pub returns : goal.returns
returns c =
    let args = c.args in
    laid_guides args.flags.now args.course.now args.n c.requires.2 args.kind c.signed_guides.ensures c.settle.ensures
