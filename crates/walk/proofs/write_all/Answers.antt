use mathlib.Core.Bool.{true}
use mathlib.Core.Path.{refl, ◌∙◌}
use native.Mathlib.Omega.{arith}
use Rattle.protein.specs.Job.{job_of, segments_of}
use Rattle.protein.specs.Places.{place_of, far_by}
use Rattle.tubes.specs.List.{tube_list}
use Rattle.protein.specs.Protein.{protein_of}
use Rattle.scratch.proofs.Laws.{kept_refl, kept_then}
use Rattle.walk.specs.Walk.{all_frames}
use Rattle.walk.proofs.Laws.{small_way, small_end, left_start, left_counted, left_over, left_room, left_turn}
use Rattle.trail.proofs.Places.{alphas_under, gives_got, gives_end}
use Rattle.walk.proofs.Found.{got_long, got_table, got_sited, got_aired}
use Rattle.walk.proofs.write_all.Goals as goal

pub begin-c-requires : goal.begin-c-requires
begin-c-requires c = (c.requires.whole.0, c.requires.whole.1)

pub loop-from-init : goal.loop-from-init
unfolding tube_list
loop-from-init c = (c.begin-c.ensures.1, kept_refl _ _ _, (refl, refl), left_start _ _ _ _ _ c.begin-c.ensures.2 c.requires.whole.4.twice c.requires.ready)

pub next_tube-requires : goal.next_tube-requires
next_tube-requires c = (c.requires.whole.0, c.loop-from.invariant.0, c.requires.whole.3)

pub returns : goal.returns
returns c =
    let args = c.args in
    let inv = c.loop-from.invariant in record { kept = kept_then _ _ _ _ _ _ _ (omega arith) (omega arith) c.begin-c.ensures.0 (kept_then _ _ _ _ _ _ _ (omega arith) (omega arith) inv.1 c.next_tube.ensures.0); floats_unchanged = inv.2.1; boxes_value = left_over _ _ _ _ _ _ _ inv.3 (gives_end (job_of args.b.now args.h) (segments_of args.q.now) true (far_by (place_of args.b.now args.h)) _ _ _ _ c.next_tube.ensures.1 c.in_default.is) }

pub alphas_at-alphas-requires : goal.alphas_at-alphas-requires
alphas_at-alphas-requires c = c.requires.whole.0.few_residues

pub overflow_add-end : goal.overflow_add-end
overflow_add-end c =
    let args = c.args in
    let G = gives_got (job_of args.b.now args.h) (segments_of args.q.now) (far_by (place_of args.b.now args.h)) _ _ _ _ _ c.next_tube.ensures.1 c.in-Some.is in
    omega (arith, alphas_under _ args.h.residues c.in-Some.field-0.place.source c.alphas_at-alphas.ensures, c.requires.whole.0.few_residues)

pub offset_bounds-view-from : goal.offset_bounds-view-from
offset_bounds-view-from c =
    let args = c.args in
    let G = gives_got (job_of args.b.now args.h) (segments_of args.q.now) (far_by (place_of args.b.now args.h)) _ _ _ _ _ c.next_tube.ensures.1 c.in-Some.is in
    omega (arith, G.long, G.fits, G.at.stands.size, c.requires.whole.0.few_residues)

pub slice_bounds-write_one-count : goal.slice_bounds-write_one-count
slice_bounds-write_one-count c =
    let args = c.args in
    let G = gives_got (job_of args.b.now args.h) (segments_of args.q.now) (far_by (place_of args.b.now args.h)) _ _ _ _ _ c.next_tube.ensures.1 c.in-Some.is in
    omega (arith, G.long)

pub slice_bounds-write_one-start : goal.slice_bounds-write_one-start
slice_bounds-write_one-start c =
    let args = c.args in
    let G = gives_got (job_of args.b.now args.h) (segments_of args.q.now) (far_by (place_of args.b.now args.h)) _ _ _ _ _ c.next_tube.ensures.1 c.in-Some.is in
    omega (arith, G.long, G.fits, G.at.stands.size)

pub slice_bounds-write_one-end : goal.slice_bounds-write_one-end
slice_bounds-write_one-end c =
    let args = c.args in
    let G = gives_got (job_of args.b.now args.h) (segments_of args.q.now) (far_by (place_of args.b.now args.h)) _ _ _ _ _ c.next_tube.ensures.1 c.in-Some.is in
    omega (arith, G.fits, G.at.stands.size)

pub offset_bounds-view-alphas : goal.offset_bounds-view-alphas
offset_bounds-view-alphas c = omega (arith, alphas_under _ c.args.h.residues c.in-Some.field-0.place.source c.alphas_at-alphas.ensures, c.requires.whole.0.few_residues)

pub slice_bounds-write_one-end-in-Some : goal.slice_bounds-write_one-end-in-Some
slice_bounds-write_one-end-in-Some c =
    let args = c.args in
    let G = gives_got (job_of args.b.now args.h) (segments_of args.q.now) (far_by (place_of args.b.now args.h)) _ _ _ _ _ c.next_tube.ensures.1 c.in-Some.is in
    omega (arith, alphas_under _ args.h.residues c.in-Some.field-0.place.source c.alphas_at-alphas.ensures, G.at.stands.size)

pub offset_bounds-view-oxygens : goal.offset_bounds-view-oxygens
offset_bounds-view-oxygens c = omega (arith, c.requires.whole.0.few_residues)

pub slice_bounds-write_one-end-in-Some-2 : goal.slice_bounds-write_one-end-in-Some-2
slice_bounds-write_one-end-in-Some-2 c =
    let args = c.args in
    let G = gives_got (job_of args.b.now args.h) (segments_of args.q.now) (far_by (place_of args.b.now args.h)) _ _ _ _ _ c.next_tube.ensures.1 c.in-Some.is in
    omega (arith, G.at.stands.size)

pub write_one-s-requires : goal.write_one-s-requires
write_one-s-requires c =
    let args = c.args in
    let p = c.requires.whole in
    let inv = c.loop-from.invariant in
    let alphas_at_lem = c.alphas_at-alphas in
    let G = gives_got (job_of args.b.now args.h) (segments_of args.q.now) (far_by (place_of args.b.now args.h)) _ _ _ _ _ c.next_tube.ensures.1 c.in-Some.is in
    let a = got_table (job_of args.b.now args.h) (segments_of args.q.now) (far_by (place_of args.b.now args.h)) _ _ _ _ _ _ G alphas_at_lem.result alphas_at_lem.ensures in record { whole = (p.0, G.at.kind, omega (arith, a, p.0.few_residues), omega (arith, a, p.2, inv.2.0), small_way _ _ _ all_frames (left_counted _ _ _ _ _ _ _ inv.3) inv.3.twice (small_end (protein_of args.b.now args.h) (segments_of args.q.now) _ p.0.few_residues p.5 p.4)); in_bounds = ((got_long (job_of args.b.now args.h) (segments_of args.q.now) (far_by (place_of args.b.now args.h)) _ _ _ _ _ _ G), G.follows, got_sited (job_of args.b.now args.h) (segments_of args.q.now) (far_by (place_of args.b.now args.h)) _ _ _ _ _ _ G alphas_at_lem.result alphas_at_lem.ensures, got_aired (job_of args.b.now args.h) (segments_of args.q.now) (far_by (place_of args.b.now args.h)) _ _ _ _ _ _ G refl); ready = left_room _ _ _ _ _ _ _ inv.3 _ _ G.left }

pub loop-from-smaller : goal.loop-from-smaller
loop-from-smaller c =
    let args = c.args in
    let G = gives_got (job_of args.b.now args.h) (segments_of args.q.now) (far_by (place_of args.b.now args.h)) _ _ _ _ _ c.next_tube.ensures.1 c.in-Some.is in
    G.less

pub loop-from-preserved : goal.loop-from-preserved
loop-from-preserved c =
    let args = c.args in
    let inv = c.loop-from.invariant in
    let write-one = c.write_one-s in
    let G = gives_got (job_of args.b.now args.h) (segments_of args.q.now) (far_by (place_of args.b.now args.h)) _ _ _ _ _ c.next_tube.ensures.1 c.in-Some.is in
    let a = got_table (job_of args.b.now args.h) (segments_of args.q.now) (far_by (place_of args.b.now args.h)) _ _ _ _ _ _ G c.alphas_at-alphas.result c.alphas_at-alphas.ensures in
    let k = write-one.auto in (
      G.at,
      kept_then _ _ _ _ _ _ _ (omega arith) (omega arith) inv.1 c.next_tube.ensures.0,
      (k.floats ∙ inv.2.0, (rw a at write-one.ensures.floats_unchanged) ∙ inv.2.1),
      left_turn _ _ _ _ _ _ _ inv.3 _ _ G.left _ _ write-one.ensures.boxes_value (record { positions = k.positions; normals = k.normals; tags = k.tags; triangles = k.triangles; tubes = k.records; boxes = k.boxes }) (got_long (job_of args.b.now args.h) (segments_of args.q.now) (far_by (place_of args.b.now args.h)) _ _ _ _ _ _ G),
    )
