use Prim.Native.Nat.{◌-◌}
use mathlib.Core.Path.{sym, ap, ◌∙◌}
use native.Mathlib.Omega.{arith}
use Rattle.protein.specs.Job.{job_of}
use Rattle.stretch.specs.Stretch.{inside}
use Rattle.stretch.proofs.Laws.{inside_none, serial_few, outside_less}
use Rattle.stretch.proofs.past_inside.Goals as goal

pub returns-then-g : goal.returns-then-g
returns-then-g c = (omega arith, omega arith, λ a l m. inside_none _ _ c.if-g.true)

pub loop-a-init : goal.loop-a-init
loop-a-init c = (omega arith, omega arith, λ a l m. absurd (omega arith))

pub is_within-requires : goal.is_within-requires
is_within-requires c =
    let args = c.args in
    (c.if-g.false, c.requires.2, omega (arith, c.serial.ensures, serial_few args.b.now args.h (c.loop-a.a - 1) (λ i. omega (arith, c.type_inv.b i))))

pub returns-then-is_within : goal.returns-then-is_within
returns-then-is_within c = (omega arith, omega arith, λ a l m. c.loop-a.invariant.2 a (omega arith) m)

pub loop-a-preserved : goal.loop-a-preserved
loop-a-preserved c =
    let args = c.args in
    (omega arith, omega arith, outside_less (job_of args.b.now args.h) args.g _ _ (omega arith) c.loop-a.invariant.2 (ap (inside args.g) (sym c.serial.ensures) ∙ sym c.is_within.ensures ∙ c.if-is_within.false))

pub returns : goal.returns
returns c = (omega arith, omega arith, λ a l m. c.loop-a.invariant.2 a (omega arith) m)
