use Prim.Native.Nat.{ℕ, ◌-◌}
use mathlib.Core.Path.{◌≡◌, refl}
use lib.ListN.{length, get_or}
use native.Mathlib.Omega.{arith}
use Rattle.lists.specs.Put.{put, upto}
use Rattle.lists.proofs.Puts.{kept, turn}
use Rattle.protein.specs.Places.{place_of}
use Rattle.vectors.specs.Vec.{floats}
use Rattle.mesh.specs.Mesh.{spot_of, spots}
use Rattle.mesh.proofs.load.Goals as goal

pub loop-i-init : goal.loop-i-init
unfolding put upto
loop-i-init c = (omega arith, refl)

pub overflow_cast-atoms : goal.overflow_cast-atoms
overflow_cast-atoms c = omega (arith, c.type_inv.atoms c.loop-i.i)

pub spot-requires : goal.spot-requires
spot-requires c = (c.requires.0, c.requires.1 c.loop-i.i (omega arith))

pub put_vec-requires : goal.put_vec-requires
put_vec-requires c = omega (arith, kept _ _ _ c.loop-i.invariant.1, c.requires.2)

pub loop-i-preserved : goal.loop-i-preserved
loop-i-preserved c =
    let args = c.args in
    (omega arith, turn (λ (k : ℕ). floats (spot_of (place_of args.b.now args.h) (get_or args.atoms.now k 0))) 3 (λ _. refl) _ _ _ c.loop-i.i (rw c.spot.ensures at c.put_vec.ensures) c.loop-i.invariant.1 (omega arith))

pub shape_of-course : goal.shape_of-course
shape_of-course c = kept _ _ _ c.loop-i.invariant.1

pub returns : goal.returns
unfolding spots
returns c = let e : length c.args.atoms.now ≡ c.loop-i.i = omega arith in
    rw e c.loop-i.invariant.1
