use borrow.Author.Rules.{rules}
use native.Mathlib.Omega.{arith}
use Prim.Native.Nat.{ℕ, suc, ◌+◌, ◌-◌, ◌<◌}
use lib.ListN.{get_or}
use mathlib.Core.Path.{◌≡◌, refl, sym, ap, ◌∙◌, subst}
use Rattle.appearance.proofs.Found.{Walked, walked_start, walked_none, walked_here, walked_on}
use Rattle.appearance.proofs.Lookup.find.Goals as goal

at_link : (p : ℕ) → 0 < p → 16384 + (p - 1) ≡ 16383 + p
at_link p h = omega arith

pub loop-p-init : goal.loop-p-init
loop-p-init c =
    let q = c.slot_of-h.ensures in
    walked_start _ _ _ _ c.args.self.now.index (subst (λ (k : ℕ). k < 16384) q.0 q.1) _ _ q.0 refl

pub returns-then-self-i : goal.returns-then-self-i
returns-then-self-i c =
    let z : c.loop-p.p ≡ suc (c.loop-p.p - 1) = omega arith in
    (sym (walked_here _ _ _ _ c.args.self.now.index _ c.loop-p.invariant c.loop-p-test.true c.if-self-i.true) ∙ z, omega (arith, c.loop-p.invariant.below))

pub loop-p-smaller : goal.loop-p-smaller
loop-p-smaller c = let step = ap (λ j. get_or c.args.self.now.links.now j 0) (at_link _ c.loop-p-test.true) in (walked_on _ _ _ _ c.args.self.now.index _ c.loop-p.invariant c.loop-p-test.true c.if-self-i.false _ step).1

pub loop-p-preserved : goal.loop-p-preserved
loop-p-preserved c = let step = ap (λ j. get_or c.args.self.now.links.now j 0) (at_link _ c.loop-p-test.true) in (walked_on _ _ _ _ c.args.self.now.index _ c.loop-p.invariant c.loop-p-test.true c.if-self-i.false _ step).0

pub returns : goal.returns
returns c = sym (walked_none _ _ _ _ c.args.self.now.index _ c.loop-p.invariant c.loop-p-test.false)
