-- What antt opens to compute the tests: a test that says `unfolding opens_tubes` computes with everything that is listed there. These are lists of names and
-- say nothing; there is nothing here to believe.
use Rattle.std.specs.Prelude.{ℕ}
use Rattle.std.specs.Int.Count.{count_trailing_zeros}
use Rattle.std.specs.Float.Ieee.{to_bits, of_bits, of_fields, odd, span, climb, size, units, round, sum, add, sub, neg, mul, div, of_int, lt, eq, le, is_nan}
use Rattle.floats.specs.Floats.{narrowed, root, nearest_root, floor_root, root_digits, greater, absolute}
use Rattle.vectors.specs.Vec.{vadd, vsub, vscale, vcross, vdot, vlength, normalised, direction_of, vec_at, eight}
use Rattle.lists.specs.Put.{put, upto}
use Rattle.lists.specs.Search.{first, last}
use Rattle.numbers.specs.Bytes.{u16_at, u32_at, u64_at}
use Rattle.protein.specs.Places.{coordinate_at, place_of, far, far_by}
use Rattle.job.specs.Coordinate.{within}
use Rattle.job.specs.Check.{sizes, bad_visibility, bad_kind, stray, bad_atom, bad_coordinate, contents, check}
use Rattle.tables.specs.Wants.{wants, gives, chain_of}
use Rattle.stretch.specs.Stretch.{inside}
use Rattle.tubes.specs.Pieces.{pieces, apart}
use Rattle.tubes.specs.Frames.{chosen}
use Rattle.tubes.specs.Tubes as list
use Rattle.tubes.specs.List.{tube_list}
use Rattle.edges.specs.Tube.{rings, vertices, triangles, ring, next, cap, band, stack, tube}
use Rattle.shape.specs.Spline.{bend, twist, catmull_rom, catmull_rom_tangent}
use Rattle.shape.specs.Guide as guide
use Rattle.shape.specs.Ring as shape
use Rattle.smooth.specs.Pass.{guide_pass, position_pass, repeated, smooth_guides, smooth_positions}
use Rattle.curve.specs.Residues.{tangent_at, raw_at, signed_at, signed, sum_of, same, settled, guides_of, points_of}
use Rattle.curve.specs.Samples.{span_of, span_at, param_at, frame_of, frame_at, ring_at, tag_at}
use Rattle.caps.specs.Caps as caps
use Rattle.skin.specs.Tube as skin
use Rattle.mesh.specs.Mesh as mesh

-- floats and vectors
unfoldable pub opens_floats : ℕ
unfolding
    narrowed root nearest_root floor_root root_digits greater absolute to_bits of_bits of_fields odd span climb size units round sum add sub neg mul div of_int
    lt eq le is_nan count_trailing_zeros vadd vsub vscale vcross vdot vlength normalised direction_of far
opens_floats = 0

-- the corners and the counts of a tube
unfoldable pub opens_corners : ℕ
unfolding rings vertices triangles ring next cap band stack tube upto
opens_corners = 0

-- checks 1 to 8, and 01's list of tubes with its sums
unfoldable pub opens_tubes : ℕ
unfolding
    opens_floats vertices triangles mesh.vertex_sum mesh.triangle_sum check sizes contents first last bad_visibility bad_kind bad_atom bad_coordinate stray within
    u16_at u32_at u64_at gives wants chain_of inside chosen pieces apart place_of coordinate_at far_by tube_list list.any list.shown list.coil_alpha
    list.segment_alpha list.alpha_of list.frames list.counts list.covered list.gap list.tube_of list.tubes_of list.run_tubes list.segment_tube list.joined
    list.loose list.joins list.extended list.coil_tubes list.tubes
opens_tubes = 0

-- the course of a tube: its spline points, its guides and its samples
unfoldable pub opens_course : ℕ
unfolding
    opens_floats put upto vec_at bend twist catmull_rom catmull_rom_tangent guide.fallback_perp guide.across guide.upright guide.compute_guide guide.raw_guide
    guide.or_up guide.tangent_of guide.directed guide.agreeing guide.weighted guide.smooth_guide guide.smooth_position guide.between guide_pass position_pass
    repeated smooth_guides smooth_positions tangent_at raw_at signed_at signed sum_of same settled guides_of points_of span_of span_at param_at frame_of frame_at
opens_course = 0

-- its skin: positions, normals and tags
unfoldable pub opens_skin : ℕ
unfolding
    opens_course shape.cos_bits shape.sin_bits shape.cos_at shape.sin_at shape.half_sizes shape.in_arrow shape.arrow shape.profile_of shape.steep shape.spoke_at
    shape.spokes_of shape.point_on shape.normal_on shape.ring_over shape.cross_section ring_at tag_at skin.ordered eight skin.ring_positions
    skin.ring_normals skin.ring_tags skin.start_normal caps.chord caps.end_normal_by caps.end_normal skin.skin_positions skin.skin_normals skin.positions_of skin.normals_of skin.tags_of
opens_skin = 0

-- the positions and normals of a job's mesh
unfoldable pub opens_mesh : ℕ
unfolding
    opens_tubes opens_skin list.oxygen_of mesh.kind_of mesh.alphas_of mesh.oxygens_of mesh.spot_of mesh.spots mesh.air_at mesh.positions_by mesh.normals_by
    mesh.tube_positions mesh.tube_normals mesh.mesh_positions mesh.mesh_normals
opens_mesh = 0
