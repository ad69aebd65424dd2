use Prim.Native.Nat.{ℕ, ◌+◌}
use mathlib.Core.Bool.{Bool, false, not}
use mathlib.Core.Path.{◌≡◌}
use Rattle.protein.specs.Layout.{atom_at}
use Rattle.numbers.specs.Bytes.{u64_at}
use Rattle.job.specs.Coordinate.{within}
use Rattle.job.specs.Check.{bad_coordinate}
use Rattle.lists.proofs.Bools.{or_last}
use Rattle.job.proofs.is_bad_coordinate.Goals as goal

pub returns-then-is_outside : goal.returns-then-is_outside
unfolding bad_coordinate
returns-then-is_outside c = simp (← c.atom_at-at.ensures, ← c.is_outside.ensures, c.if-is_outside.true)

pub returns-then-is_outside-2 : goal.returns-then-is_outside-2
unfolding bad_coordinate
returns-then-is_outside-2 c = simp (← c.atom_at-at.ensures, ← c.is_outside.ensures, c.if-is_outside.false, ← c.is_outside-2.ensures, c.if-is_outside-2.true)

pub returns : goal.returns
unfolding bad_coordinate
returns c =
    let args = c.args in
    let f : ℕ → Bool = λ k. not (within (u64_at args.b.now (atom_at args.h args.a + k))) in
    let x : f 9 ≡ false = cc in
    let y : f 17 ≡ false = cc in
    let z : c.is_outside-3.result ≡ f 25 = cc in
    or_last x y z
