use Prim.Native.Nat.{◌+◌, ◌-◌, ◌/◌}
use native.Mathlib.Omega.{arith}
use Rattle.stretch.proofs.first_from.Goals as goal

pub loop-lo-init : goal.loop-lo-init
loop-lo-init c = (λ a l m. absurd (omega arith), λ a l m. absurd (omega arith), omega arith, c.requires.1.order, omega arith)

pub loop-lo-preserved-then-serial-v : goal.loop-lo-preserved-then-serial-v
loop-lo-preserved-then-serial-v c =
    let up = c.requires.1.up in
    let loop = c.loop-lo in
    (λ a l m. let z = up a (loop.lo + (loop.hi - loop.lo) / 2) l (omega arith) (omega arith) in omega arith, c.loop-lo.invariant.1, omega arith, omega arith, omega arith)

pub loop-lo-preserved : goal.loop-lo-preserved
loop-lo-preserved c =
    let up = c.requires.1.up in
    let loop = c.loop-lo in
    (loop.invariant.0, λ a l m. let z = up (loop.lo + (loop.hi - loop.lo) / 2) a (omega arith) l m in omega arith, omega arith, omega arith, omega arith)

pub returns : goal.returns
returns c = let I = c.loop-lo.invariant in record { low = I.2; few = omega arith; below = I.0; above = λ a l m. I.1 a (omega arith) m }
