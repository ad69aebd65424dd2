use mathlib.Core.Path.{sym, ◌∙◌}
use Prim.Native.Nat.{◌-◌}
use native.Mathlib.Omega.{arith}
use Rattle.smooth.specs.Pass.{guide_pass, smooth_guides}
use Rattle.smooth.proofs.Laws.{length_guides, passed_none, passed_more, passed_all}
use Rattle.smooth.proofs.guides.smooth_guides.Goals as goal

pub loop-k-init : goal.loop-k-init
loop-k-init c = (omega arith, passed_none _ _ _ c.requires.whole)

pub guide_pass-requires : goal.guide_pass-requires
guide_pass-requires c = (omega (arith, c.requires.two), c.loop-k.invariant.1.long)

pub loop-k-preserved : goal.loop-k-preserved
loop-k-preserved c = (omega arith, passed_more (length_guides _) c.loop-k.invariant.1 c.guide_pass.ensures)

pub shape_of-list : goal.shape_of-list
shape_of-list c = c.loop-k.invariant.1.long ∙ sym c.requires.whole

pub returns : goal.returns
unfolding smooth_guides
returns c = passed_all _ c.loop-k.invariant.1 (omega arith)
