use mathlib.Core.Path.{◌∙◌, ap}
use native.Mathlib.Omega.{arith}
use Rattle.protein.specs.Protein.{protein_of}
use Rattle.buffers.specs.Outs.{Outs, outs}
use Rattle.shares.proofs.Laws.{parts_as, lent_back_lem}
use Rattle.room.specs.Room.{lent, buffers}
use Rattle.promises.specs.Calls.{tubes_with, build_checks, outs_by}
use Rattle.parties.proofs.build_within.Goals as goal

pub overflow_add-e0 : goal.overflow_add-e0
overflow_add-e0 c = omega (arith, c.requires.3.positions, c.well_formed)

pub overflow_add-e1 : goal.overflow_add-e1
overflow_add-e1 c = omega (arith, c.requires.3.normals, c.well_formed)

pub overflow_add-e2 : goal.overflow_add-e2
overflow_add-e2 c = omega (arith, c.requires.3.tags, c.well_formed)

pub overflow_add-e3 : goal.overflow_add-e3
overflow_add-e3 c = omega (arith, c.requires.3.triangles, c.well_formed)

pub overflow_add-e4 : goal.overflow_add-e4
overflow_add-e4 c = omega (arith, c.requires.3.tubes, c.well_formed)

pub overflow_add-e5 : goal.overflow_add-e5
overflow_add-e5 c = omega (arith, c.requires.3.boxes, c.well_formed)

pub offset_bounds-positions-a0 : goal.offset_bounds-positions-a0
offset_bounds-positions-a0 c = record { fits = omega (arith, c.requires.3.positions, c.well_formed) }

pub slice_bounds-build_checked-count : goal.slice_bounds-build_checked-count
slice_bounds-build_checked-count c = omega arith

pub slice_bounds-build_checked-start : goal.slice_bounds-build_checked-start
slice_bounds-build_checked-start c = omega arith

pub slice_bounds-build_checked-end : goal.slice_bounds-build_checked-end
slice_bounds-build_checked-end c = omega (arith, c.requires.3.positions)

pub offset_bounds-normals-a1 : goal.offset_bounds-normals-a1
offset_bounds-normals-a1 c = record { fits = omega (arith, c.requires.3.normals, c.well_formed) }

pub slice_bounds-build_checked-count-2 : goal.slice_bounds-build_checked-count-2
slice_bounds-build_checked-count-2 c = omega arith

pub slice_bounds-build_checked-start-2 : goal.slice_bounds-build_checked-start-2
slice_bounds-build_checked-start-2 c = omega arith

pub slice_bounds-build_checked-end-2 : goal.slice_bounds-build_checked-end-2
slice_bounds-build_checked-end-2 c = omega (arith, c.requires.3.normals)

pub offset_bounds-tags-a2 : goal.offset_bounds-tags-a2
offset_bounds-tags-a2 c = record { fits = omega (arith, c.requires.3.tags, c.well_formed) }

pub slice_bounds-build_checked-count-3 : goal.slice_bounds-build_checked-count-3
slice_bounds-build_checked-count-3 c = omega arith

pub slice_bounds-build_checked-start-3 : goal.slice_bounds-build_checked-start-3
slice_bounds-build_checked-start-3 c = omega arith

pub slice_bounds-build_checked-end-3 : goal.slice_bounds-build_checked-end-3
slice_bounds-build_checked-end-3 c = omega (arith, c.requires.3.tags)

pub offset_bounds-triangles-a3 : goal.offset_bounds-triangles-a3
offset_bounds-triangles-a3 c = record { fits = omega (arith, c.requires.3.triangles, c.well_formed) }

pub slice_bounds-build_checked-count-4 : goal.slice_bounds-build_checked-count-4
slice_bounds-build_checked-count-4 c = omega arith

pub slice_bounds-build_checked-start-4 : goal.slice_bounds-build_checked-start-4
slice_bounds-build_checked-start-4 c = omega arith

pub slice_bounds-build_checked-end-4 : goal.slice_bounds-build_checked-end-4
slice_bounds-build_checked-end-4 c = omega (arith, c.requires.3.triangles)

pub offset_bounds-tubes-a4 : goal.offset_bounds-tubes-a4
offset_bounds-tubes-a4 c = record { fits = omega (arith, c.requires.3.tubes, c.well_formed) }

pub slice_bounds-build_checked-count-5 : goal.slice_bounds-build_checked-count-5
slice_bounds-build_checked-count-5 c = omega arith

pub slice_bounds-build_checked-start-5 : goal.slice_bounds-build_checked-start-5
slice_bounds-build_checked-start-5 c = omega arith

pub slice_bounds-build_checked-end-5 : goal.slice_bounds-build_checked-end-5
slice_bounds-build_checked-end-5 c = omega (arith, c.requires.3.tubes)

pub offset_bounds-boxes-a5 : goal.offset_bounds-boxes-a5
offset_bounds-boxes-a5 c = record { fits = omega (arith, c.requires.3.boxes, c.well_formed) }

pub slice_bounds-build_checked-count-6 : goal.slice_bounds-build_checked-count-6
slice_bounds-build_checked-count-6 c = omega arith

pub slice_bounds-build_checked-start-6 : goal.slice_bounds-build_checked-start-6
slice_bounds-build_checked-start-6 c = omega arith

pub slice_bounds-build_checked-end-6 : goal.slice_bounds-build_checked-end-6
slice_bounds-build_checked-end-6 c = omega (arith, c.requires.3.boxes)

pub build_checked-requires : goal.build_checked-requires
build_checked-requires c = let pre = c.requires in (pre.0, pre.1, pre.2)

pub shape_of-positions : goal.shape_of-positions
shape_of-positions c = c.positions-1.given.1

pub shape_of-normals : goal.shape_of-normals
shape_of-normals c = c.normals-1.given.1

pub shape_of-tags : goal.shape_of-tags
shape_of-tags c = c.tags-1.given.1

pub shape_of-triangles : goal.shape_of-triangles
shape_of-triangles c = c.triangles-1.given.1

pub shape_of-tubes : goal.shape_of-tubes
shape_of-tubes c = c.tubes-1.given.1

pub shape_of-boxes : goal.shape_of-boxes
shape_of-boxes c = c.boxes-1.given.1

pub shape_of-words : goal.shape_of-words
shape_of-words c = omega arith

pub shape_of-floats : goal.shape_of-floats
shape_of-floats c = omega arith

pub returns : goal.returns
returns c =
    let args = c.args in
    let o = outs args.positions.now args.normals.now args.tags.now args.triangles.now args.tubes.now args.boxes.now in
    let us = tubes_with args.b.now args.h args.q.now in
    let build-checked = c.build_checked in
    let f = build-checked.ensures in
    (f.0 ∙ ap (λ (x : Outs). build_checks args.h us (lent (buffers x args.words.now args.floats.now))) (parts_as args.mine o), lent_back_lem (outs_by build-checked.result (protein_of args.b.now args.h) us) args.mine o _ f.1, f.2)
