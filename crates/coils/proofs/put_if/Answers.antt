use mathlib.Core.Path.{refl, ap}
use native.Mathlib.Omega.{arith}
use Rattle.scratch.proofs.Laws.{fill_one, fill_empty}
use Rattle.scratch.specs.Scratch.{bit}
use Rattle.coils.proofs.put_if.Goals as goal

pub bounds-t-at : goal.bounds-t-at
bounds-t-at c = let z = ap bit c.if-wanted.true in omega (arith, z, c.requires.0)

pub returns-then-wanted : goal.returns-then-wanted
returns-then-wanted c = rw c.if-wanted.true (refl, fill_one _ _ _ (let z = ap bit c.if-wanted.true in omega (arith, z, c.requires.0)))

pub returns : goal.returns
returns c = rw c.if-wanted.false (refl, fill_empty _ _ _)
