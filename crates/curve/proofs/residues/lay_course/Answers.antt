use mathlib.Core.Path.{sym}
use Prim.Native.Nat.{◌*◌}
use lib.ListN.{take, drop}
use Rattle.curve.specs.Residues.{oxygen_at, guides_of}
use Rattle.smooth.proofs.Laws.{smoothable}
use Rattle.curve.proofs.Laws.{length_laid, laid_points}
use Rattle.curve.proofs.residues.lay_course.Goals as goal

pub slice_bounds-straighten-end-2 : goal.slice_bounds-straighten-end-2
slice_bounds-straighten-end-2 c =
    let args = c.args in
    let g = guides_of args.kind (take (3 * args.n) args.course.now) (oxygen_at args.flags.now (drop (3 * args.n) args.course.now)) args.n in
    sym (length_laid args.flags.now args.course.now args.n c.requires.2 g c.lay_guides.ensures)

pub straighten-requires : goal.straighten-requires
straighten-requires c =
    let args = c.args in
    let g = guides_of args.kind (take (3 * args.n) args.course.now) (oxygen_at args.flags.now (drop (3 * args.n) args.course.now)) args.n in
    smoothable _ args.n (length_laid args.flags.now args.course.now args.n c.requires.2 g c.lay_guides.ensures) c.requires.0

pub returns : goal.returns
returns c =
    let args = c.args in
    let g = guides_of args.kind (take (3 * args.n) args.course.now) (oxygen_at args.flags.now (drop (3 * args.n) args.course.now)) args.n in
    laid_points args.flags.now args.course.now args.n c.requires.2 args.kind g c.lay_guides.ensures c.straighten.ensures
