use mathlib.Core.Path.{refl, sym, ap, ap₂, ◌∙◌}
use native.Mathlib.Numerals.{add-one}
use native.Mathlib.Omega.{arith}
use Rattle.lists.specs.Put.{put, upto}
use Rattle.lists.proofs.Puts.{turn, kept}
use Rattle.edges.specs.Tube.{ring, band, band_at}
use Rattle.edges.proofs.Theorems.{vertex_count_lem, triangle_count_lem}
use Rattle.edges.proofs.Stack.{band_size}
use Rattle.stitch.proofs.Assembly.{assembled}
use Rattle.stitch.proofs.tube_triangles.Goals as goal

-- Assumes nothing.

pub overflow_mul-bands : goal.overflow_mul-bands
overflow_mul-bands c = omega (arith, vertex_count_lem c.args.n c.requires.le_n.0)

pub emit_cap-requires : goal.emit_cap-requires
emit_cap-requires c = record { at_in_bounds = omega (arith, triangle_count_lem c.args.n c.requires.le_n.0); base_bound = omega (arith, vertex_count_lem c.args.n c.requires.le_n.0) }

pub overflow_add-place : goal.overflow_add-place
overflow_add-place c = omega (arith, triangle_count_lem c.args.n c.requires.le_n.0)

pub overflow_add-b : goal.overflow_add-b
overflow_add-b c = omega (arith, vertex_count_lem c.args.n c.requires.le_n.0)

pub loop-j-init : goal.loop-j-init
unfolding put upto ring
loop-j-init c = (omega arith, omega arith, refl, omega arith, omega arith, omega arith, refl)

pub append_ring_and_stitch-requires : goal.append_ring_and_stitch-requires
append_ring_and_stitch-requires c = record { at_in_bounds = omega (arith, triangle_count_lem c.args.n c.requires.le_n.0, kept _ _ _ c.loop-j.invariant.6, kept _ _ _ c.emit_cap.ensures); a_bound = omega (arith, vertex_count_lem c.args.n c.requires.le_n.0) }

pub overflow_add-place-in-loop-j : goal.overflow_add-place-in-loop-j
overflow_add-place-in-loop-j c = omega (arith, kept _ _ _ c.loop-j.invariant.6, kept _ _ _ c.emit_cap.ensures)

pub overflow_add-b-in-loop-j : goal.overflow_add-b-in-loop-j
overflow_add-b-in-loop-j c = omega (arith, vertex_count_lem c.args.n c.requires.le_n.0)

pub loop-j-preserved : goal.loop-j-preserved
unfolding ring
loop-j-preserved c = let loop = c.loop-j in
    let args = c.args in (
      omega arith,
      omega arith,
      loop.invariant.3 ∙ ap (ring 8 args.first) (sym (add-one loop.j)),
      omega arith,
      omega arith,
      omega arith,
      turn (band_at 8 args.first) 48 (λ j. band_size 8 _ _) _ _ _ loop.j (c.append_ring_and_stitch.ensures ∙ ap (put loop.triangles loop.place) (ap₂ (band 8) loop.invariant.2 loop.invariant.3)) loop.invariant.6 loop.invariant.1,
    )

pub emit_cap-requires-2 : goal.emit_cap-requires-2
emit_cap-requires-2 c = record { at_in_bounds = omega (arith, triangle_count_lem c.args.n c.requires.le_n.0, kept _ _ _ c.loop-j.invariant.6, kept _ _ _ c.emit_cap.ensures); base_bound = omega (arith, vertex_count_lem c.args.n c.requires.le_n.0) }

pub shape_of-triangles : goal.shape_of-triangles
shape_of-triangles c = kept _ _ _ c.emit_cap-2.ensures ∙ kept _ _ _ c.loop-j.invariant.6 ∙ kept _ _ _ c.emit_cap.ensures

pub returns : goal.returns
returns c = let loop = c.loop-j in
    let args = c.args in
    assembled 8 8 args.first args.n _ _ _ args.at loop.j _ _ _ _ (omega arith) (omega arith)
    c.emit_cap.ensures loop.invariant.6 c.emit_cap-2.ensures refl (omega arith) (omega arith) loop.invariant.2
