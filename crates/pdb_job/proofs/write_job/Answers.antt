use native.Mathlib.Omega.{arith}
use mathlib.Core.Path.{◌∙◌}
use Rattle.lists.proofs.Puts.{kept, length_put}
use Rattle.pdb_job.proofs.Counts.{not_more, within_limits, size_is, written}
use Rattle.pdb_job.proofs.write_job.Goals as goal

pub put_head-requires : goal.put_head-requires
put_head-requires c =
    let p = c.requires in
    let m = not_more _ _ _ p.0 p.1 in
    let L = within_limits _ _ _ p.0 m p.1 in
    let z = size_is _ _ _ p.0 m in
    (omega (arith, p.2), omega (arith, L.0), omega (arith, L.1), omega (arith, L.2))

pub put_visible-requires : goal.put_visible-requires
put_visible-requires c =
    let p = c.requires in
    let k = kept _ _ _ c.put_head.ensures in
    let z = size_is _ _ _ p.0 (not_more _ _ _ p.0 p.1) in
    omega (arith, p.2)

pub overflow_add-first : goal.overflow_add-first
overflow_add-first c =
    let p = c.requires in
    let m = not_more _ _ _ p.0 p.1 in
    let L = within_limits _ _ _ p.0 m p.1 in
    omega (arith, L.0)

pub overflow_mul-segments : goal.overflow_mul-segments
overflow_mul-segments c =
    let p = c.requires in
    let m = not_more _ _ _ p.0 p.1 in
    let L = within_limits _ _ _ p.0 m p.1 in
    omega (arith, L.1)

pub overflow_add-first-2 : goal.overflow_add-first-2
overflow_add-first-2 c =
    let p = c.requires in
    let m = not_more _ _ _ p.0 p.1 in
    let L = within_limits _ _ _ p.0 m p.1 in
    omega (arith, L.0, L.1)

pub write_records-requires : goal.write_records-requires
write_records-requires c =
    let k = kept _ _ _ c.put_visible.ensures in
    let j = kept _ _ _ c.put_head.ensures in
    let m = not_more _ _ _ c.requires.0 c.requires.1 in
    let z = size_is _ _ _ c.requires.0 m in
    (omega (arith, c.requires.0.segments_are), omega (arith, c.requires.2, c.requires.0.atoms m))

pub shape_of-out : goal.shape_of-out
shape_of-out c = kept _ _ _ c.write_records.ensures ∙ length_put _ _ _ ∙ kept _ _ _ c.put_visible.ensures ∙ kept _ _ _ c.put_head.ensures

pub returns : goal.returns
returns c =
    let p = c.requires in
    written _ _ _ p.0 (not_more _ _ _ p.0 p.1) _ _ _ _ c.put_head.ensures c.put_visible.ensures c.write_records.ensures
