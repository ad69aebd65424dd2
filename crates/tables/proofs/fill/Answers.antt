use Prim.Native.Nat.{◌-◌}
use mathlib.Core.Path.{◌≡◌}
use native.Mathlib.Omega.{arith}
use Rattle.tables.specs.Wants.{gives, found}
use Rattle.protein.specs.Job.{job_of}
use Rattle.scratch.proofs.Laws.{fill_all, fill_again}
use Rattle.tables.proofs.Laws.{fill_begins}
use Rattle.tables.proofs.fill.Goals as goal

pub loop-a-init : goal.loop-a-init
loop-a-init c = let args = c.args in (omega arith, fill_begins (job_of args.b.now args.h) args.which args.w args.base _ c.requires.by_index)

pub note-requires : goal.note-requires
note-requires c = record { whole = (c.requires.whole.0, omega arith, omega (arith, c.loop-a.invariant.1.size, c.requires.whole.1), omega arith); by_index = c.loop-a.invariant.1.entry }

pub loop-a-preserved : goal.loop-a-preserved
loop-a-preserved c = (omega arith, fill_again _ _ _ _ _ _ _ c.loop-a.invariant.1 c.note.ensures)

pub shape_of-t : goal.shape_of-t
shape_of-t c = c.loop-a.invariant.1.size

pub returns : goal.returns
returns c =
    let args = c.args in
    let e : c.loop-a.a ≡ args.h.atoms = omega arith in
    fill_all (λ r. found args.which (gives (job_of args.b.now args.h) args.w r) args.h.atoms) args.base args.h.residues _ _ (rw e at c.loop-a.invariant.1)
