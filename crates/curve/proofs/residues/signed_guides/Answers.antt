use borrow.Author.Rules.{rules}
use mathlib.Core.Path.{◌≡◌, refl, ◌∙◌}
use Prim.Native.Nat.{◌+◌, ◌-◌}
use native.Mathlib.Omega.{arith}
use Rattle.lists.specs.Put.{put, upto}
use Rattle.lists.proofs.Puts.{kept}
use Rattle.curve.specs.Residues.{raw_at, signed_at}
use Rattle.curve.proofs.Laws.{raw_still, signed_put, signed_step, signed_whole}
use Rattle.curve.proofs.residues.signed_guides.Goals as goal

pub loop-i-init : goal.loop-i-init
unfolding put upto signed_at
loop-i-init c = (omega arith, c.raw_at-prev.ensures, refl)

pub put_vec-requires : goal.put_vec-requires
put_vec-requires c = omega (arith, kept _ _ _ c.loop-i.invariant.2)

pub raw_at-requires : goal.raw_at-requires
raw_at-requires c = (omega arith, omega arith, omega (arith, kept _ _ _ c.put_vec.ensures, kept _ _ _ c.loop-i.invariant.2))

pub loop-i-preserved : goal.loop-i-preserved
loop-i-preserved c =
    let loop = c.loop-i in
    let p = signed_put _ _ _ loop.i loop.invariant.1 loop.invariant.2 c.put_vec.ensures in
    (omega arith, signed_step _ loop.i loop.invariant.1 (c.raw_at.ensures ∙ raw_still _ _ _ _ (loop.i + 1) (loop.i + 1) (λ _. refl) p (omega arith)) c.agreeing-prev.ensures, p)

pub put_vec-requires-2 : goal.put_vec-requires-2
put_vec-requires-2 c = omega (arith, kept _ _ _ c.loop-i.invariant.2)

pub shape_of-course : goal.shape_of-course
shape_of-course c =
    let loop = c.loop-i in
    let e : c.args.n - 1 ≡ loop.i = omega arith in
    kept _ _ _ (signed_put _ _ _ loop.i loop.invariant.1 loop.invariant.2 (rw e at c.put_vec-2.ensures))

pub returns : goal.returns
returns c =
    let loop = c.loop-i in
    let e : c.args.n - 1 ≡ loop.i = omega arith in
    signed_whole _ _ (loop.i + 1) _ (signed_put _ _ _ loop.i loop.invariant.1 loop.invariant.2 (rw e at c.put_vec-2.ensures)) (search rules) (omega arith)
