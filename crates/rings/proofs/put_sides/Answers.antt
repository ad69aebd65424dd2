use mathlib.Core.Path.{◌≡◌, refl, ◌∙◌}
use Prim.Native.Nat.{◌+◌, ◌-◌}
use native.Mathlib.Omega.{arith}
use Rattle.lists.specs.Put.{upto}
use Rattle.lists.proofs.Puts.{kept, put1}
use Rattle.vectors.specs.Vec.{eight}
use Rattle.shape.specs.Ring.{normal_on, ring_over}
use Rattle.rings.proofs.Laws.{wrote_none, wrote_turn}
use Rattle.rings.proofs.put_sides.Goals as goal

pub loop-k-init : goal.loop-k-init
unfolding upto
loop-k-init c = (omega arith, wrote_none _ _ _ _ _)

pub overflow_add-v : goal.overflow_add-v
overflow_add-v c = omega (arith, c.requires.tag)

pub overflow_mul-v : goal.overflow_mul-v
overflow_mul-v c = omega (arith, c.requires.pos)

pub put_vec-requires : goal.put_vec-requires
put_vec-requires c = omega (arith, kept _ _ _ c.loop-k.invariant.1.pos, c.requires.pos)

pub overflow_add-v-in-loop-k : goal.overflow_add-v-in-loop-k
overflow_add-v-in-loop-k c = omega (arith, c.requires.tag)

pub overflow_mul-v-in-loop-k : goal.overflow_mul-v-in-loop-k
overflow_mul-v-in-loop-k c = omega (arith, c.requires.pos)

pub put_vec-requires-in-loop-k : goal.put_vec-requires-in-loop-k
put_vec-requires-in-loop-k c = omega (arith, kept _ _ _ c.loop-k.invariant.1.norm, c.requires.norm)

pub overflow_add-tags : goal.overflow_add-tags
overflow_add-tags c = omega (arith, c.requires.tag, c.loop-k-test.true, c.well_formed, c.ranges)

pub offset_bounds-tags-v : goal.offset_bounds-tags-v
offset_bounds-tags-v c = omega (arith, c.requires.tag, c.loop-k-test.true, c.well_formed, c.ranges)

pub bounds-tags-v : goal.bounds-tags-v
bounds-tags-v c = omega (arith, kept _ _ _ c.loop-k.invariant.1.tag, c.requires.tag, c.loop-k-test.true)

pub loop-k-preserved : goal.loop-k-preserved
loop-k-preserved c =
    let a = c.args in
    let k = c.loop-k.k in
    (omega arith, wrote_turn _ _ _ 1 (λ _. refl) (λ _. refl) (λ _. refl) a.v (a.v + k) k (record { pos = c.put_vec.ensures ∙ rw c.point_on-p.ensures; norm = c.put_vec-in-loop-k.ensures ∙ rw c.normal_on.ensures; tag = put1 _ _ _; box = c.grown-bounds.ensures ∙ rw c.point_on-p.ensures }) c.loop-k.invariant.1 (omega arith))

pub shape_of-positions : goal.shape_of-positions
shape_of-positions c = kept _ _ _ c.loop-k.invariant.1.pos

pub shape_of-normals : goal.shape_of-normals
shape_of-normals c = kept _ _ _ c.loop-k.invariant.1.norm

pub shape_of-tags : goal.shape_of-tags
shape_of-tags c = kept _ _ _ c.loop-k.invariant.1.tag

pub returns : goal.returns
unfolding ring_over eight upto
returns c =
    let e : c.loop-k.k ≡ 8 = omega arith in
    rw e at c.loop-k.invariant.1
