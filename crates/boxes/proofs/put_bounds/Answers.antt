use mathlib.Core.Path.{refl}
use native.Mathlib.Omega.{arith}
use Rattle.lists.proofs.Puts.{next, kept}
use Rattle.boxes.proofs.put_bounds.Goals as goal

pub put_vec-requires-2 : goal.put_vec-requires-2
put_vec-requires-2 c = omega (arith, kept _ _ _ c.put_vec.ensures)

pub returns : goal.returns
returns c = next _ _ _ _ _ _ c.put_vec-2.ensures c.put_vec.ensures refl
