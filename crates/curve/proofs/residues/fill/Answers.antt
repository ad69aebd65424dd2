use borrow.Author.Rules.{rules}
use mathlib.Core.Path.{refl}
use Prim.Native.Nat.{◌-◌}
use native.Mathlib.Omega.{arith}
use Rattle.lists.specs.Put.{put, upto}
use Rattle.lists.proofs.Puts.{turn, kept}
use Rattle.curve.specs.Residues.{same}
use Rattle.vectors.proofs.Flat.{vec_whole}
use Rattle.curve.proofs.residues.fill.Goals as goal

pub loop-i-init : goal.loop-i-init
unfolding put upto
loop-i-init c = (omega arith, refl)

pub put_vec-requires : goal.put_vec-requires
put_vec-requires c = omega (arith, kept _ _ _ c.loop-i.invariant.1)

pub loop-i-preserved : goal.loop-i-preserved
loop-i-preserved c = (omega arith, turn _ 3 (λ _. refl) _ 0 _ c.loop-i.i c.put_vec.ensures c.loop-i.invariant.1 (omega arith))

pub shape_of-g : goal.shape_of-g
shape_of-g c = kept _ _ _ c.loop-i.invariant.1

pub returns : goal.returns
unfolding same
returns c = vec_whole _ _ c.loop-i.i _ (λ _. refl) c.loop-i.invariant.1 (search rules) (omega arith)
