use Prim.Native.Nat.{◌-◌}
use native.Mathlib.Omega.{arith}
use Rattle.protein.specs.Job.{job_of}
use Rattle.tables.proofs.Parts.{filling_start, filling_now, filling_turn, filling_end, narrowed_seen, narrowed_none}
use Rattle.tables.proofs.fill_segment.Goals as goal

pub first_inside-a-requires : goal.first_inside-a-requires
first_inside-a-requires c = let pre = c.requires in (c.requires.whole.0, c.requires.reaches.0.to, c.requires.whole.5)

pub loop-a-init : goal.loop-a-init
loop-a-init c =
    let args = c.args in
    let pre = c.requires in
    let I = c.first_inside-a.ensures in
    (I.0, I.3, filling_start (job_of args.b.now args.h) args.g args.full args.residues args.alphas args.oxygens args.atoms _ _ c.requires.reaches.0 I.2 c.requires.whole.3 c.requires.reaches.2)

pub note_inside-seen-requires : goal.note_inside-seen-requires
note_inside-seen-requires c =
    let pre = c.requires in
    let I = c.loop-a.invariant in record { whole = (c.requires.whole.0, omega (arith, c.requires.reaches.0.to), c.requires.whole.1, omega (arith, c.requires.whole.2, I.2.noted.size), c.requires.whole.4); a_value = (I.1 (omega arith), c.requires.reaches.1); filling = filling_now _ _ _ _ _ _ _ _ _ _ I.2 }

pub first_inside-a-requires-in-loop-a : goal.first_inside-a-requires-in-loop-a
first_inside-a-requires-in-loop-a c = let pre = c.requires in (c.requires.whole.0, c.requires.reaches.0.to, c.requires.whole.5)

pub loop-a-smaller : goal.loop-a-smaller
loop-a-smaller c = let z = c.first_inside-a-in-loop-a.ensures.1 (omega arith) in omega (arith, z, c.first_inside-a-in-loop-a.ensures.0)

pub loop-a-preserved : goal.loop-a-preserved
loop-a-preserved c =
    let args = c.args in
    let I = c.first_inside-a-in-loop-a.ensures in
    (I.0, I.3, filling_turn (job_of args.b.now args.h) args.g args.full args.residues args.alphas args.oxygens _ _ _ _ _ _ _ (I.1 (omega arith)) I.2 c.loop-a.invariant.2 c.note_inside-seen.ensures)

pub shape_of-t-then-seen : goal.shape_of-t-then-seen
shape_of-t-then-seen c = c.loop-a.invariant.2.noted.size

pub returns-then-seen : goal.returns-then-seen
returns-then-seen c =
    let args = c.args in
    let R = c.requires.reaches.0 in
    let F = filling_end (job_of args.b.now args.h) args.g args.full args.residues args.alphas args.oxygens args.atoms _ _ _ _ R (omega arith) (omega (arith, R.to, c.loop-a.invariant.0)) c.loop-a.invariant.2 in
    (F.noted, narrowed_none _ _ _ _ _ _ _ _ _ F (omega arith))

pub shape_of-t : goal.shape_of-t
shape_of-t c = c.loop-a.invariant.2.noted.size

pub returns : goal.returns
returns c =
    let args = c.args in
    let R = c.requires.reaches.0 in
    let F = filling_end (job_of args.b.now args.h) args.g args.full args.residues args.alphas args.oxygens args.atoms _ _ _ _ R (omega arith) (omega (arith, R.to, c.loop-a.invariant.0)) c.loop-a.invariant.2 in
    (F.noted, narrowed_seen _ _ _ _ _ _ _ _ _ F (omega arith))
