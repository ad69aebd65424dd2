use Rattle.lists.proofs.Puts.{kept}
use Rattle.rings.proofs.Laws.{less, room, same_room}
use Rattle.skin.proofs.Laws.{whole}
use Rattle.edges.proofs.Theorems.{vertex_count_lem}
use mathlib.Core.Path.{refl}
use native.Mathlib.Omega.{arith}
use Rattle.skin.specs.Tube.{skin_positions, skin_normals, tags_of}
use Rattle.skin.proofs.tube.skin.Goals as goal

pub start_cap-start-requires : goal.start_cap-start-requires
start_cap-start-requires c =
    let pre = c.requires in
    let course = c.args.tube.now.course in
    less _ _ pre (omega (arith, vertex_count_lem c.args.tube.now.n course.two, course.two))

pub later_rings-rings-requires : goal.later_rings-rings-requires
later_rings-rings-requires c =
    let pre = c.requires in
    let course = c.args.tube.now.course in
    room _ _ _ _ _ c.start_cap-start.ensures pre _ (omega (arith, vertex_count_lem c.args.tube.now.n course.two, course.two))

pub end_cap-requires : goal.end_cap-requires
end_cap-requires c =
    let pre = c.requires in
    let course = c.args.tube.now.course in
    room _ _ _ _ _ c.later_rings-rings.ensures (same_room _ _ _ _ c.start_cap-start.ensures pre) _ (omega (arith, vertex_count_lem c.args.tube.now.n course.two, course.two))

pub returns : goal.returns
unfolding skin_positions skin_normals tags_of
returns c =
    let args = c.args in
    whole args.tube.now.kind args.tube.now.points.now args.tube.now.guides.now args.tube.now.n args.tube.now.first _ _ _ _ _ _ args.v _ _ c.args.tube.now.course.two refl refl c.start_cap-start.ensures c.later_rings-rings.ensures c.end_cap.ensures

pub shape_of-positions : goal.shape_of-positions
shape_of-positions c = kept _ _ _ (returns c).pos

pub shape_of-normals : goal.shape_of-normals
shape_of-normals c = kept _ _ _ (returns c).norm

pub shape_of-tags : goal.shape_of-tags
shape_of-tags c = kept _ _ _ (returns c).tag
