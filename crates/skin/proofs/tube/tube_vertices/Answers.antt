use mathlib.Core.Path.{sym, ap, ◌∙◌}
use Rattle.shape.specs.Ring.{spokes_of}
use Rattle.skin.proofs.Laws.{length_front, laid, covered}
use Rattle.skin.proofs.tube.tube_vertices.Goals as goal

pub slice_bounds-tube-end : goal.slice_bounds-tube-end
slice_bounds-tube-end c =
    let args = c.args in
    sym (length_front args.kind args.flags.now args.course.now args.n args.first c.requires.0 c.lay_course.ensures)

pub invariant_of-tube : goal.invariant_of-tube
invariant_of-tube c =
    let args = c.args in
    record { course = laid args.kind args.flags.now args.course.now args.n args.first c.requires.0 c.lay_course.ensures (c.spokes-spokes.ensures ∙ ap spokes_of c.half_sizes.ensures) }

pub returns : goal.returns
returns c =
    let args = c.args in
    (covered args.kind args.flags.now args.course.now args.n args.first c.requires.0 c.lay_course.ensures c.skin.ensures, c.lay_course.ensures)
