use mathlib.Core.Path.{subst}
use Prim.Native.Nat.{ℕ, ◌<◌, ◌≤◌}
use native.Mathlib.Omega.{arith}
use Rattle.consistency.proofs.Laws.{near, far}
use borrow.Author.Rules.{rules}
use Rattle.consistency.proofs.outside.Goals as goal

pub returns-then-distance-span : goal.returns-then-distance-span
returns-then-distance-span c =
    let a = c.args in
    (rw (near a.c a.low a.span (omega arith) c.requires (subst (λ (n : ℕ). n < a.span) c.distance.ensures c.if-distance-span.true)), omega arith)

pub returns : goal.returns
returns c =
    let a = c.args in
    (rw (far a.c a.low a.span (omega arith) c.requires (subst (λ (n : ℕ). a.span ≤ n) c.distance.ensures c.if-distance-span.false)), omega arith)
