use Prim.Native.Nat.{ℕ, ◌≤◌, ◌-◌, ◌*◌, ◌+◌}
use mathlib.Core.Path.{◌≡◌, refl, ◌∙◌}
use mathlib.Core.List.{[], ◌∷◌}
use native.Mathlib.Omega.{arith}
use Rattle.lists.specs.Put.{put, upto}
use Rattle.lists.proofs.Puts.{set_turn, kept}
use Rattle.numbers.specs.Bytes.{u32_at}
use Rattle.party_replies.proofs.get_numbers.Goals as goal

pub loop-i-init : goal.loop-i-init
unfolding put upto
loop-i-init c = (omega arith, refl)

pub overflow_mul-i : goal.overflow_mul-i
overflow_mul-i c = omega arith

pub overflow_add-at : goal.overflow_add-at
overflow_add-at c = omega arith

pub u32_at-requires : goal.u32_at-requires
u32_at-requires c = omega arith

pub overflow_add-n : goal.overflow_add-n
overflow_add-n c = omega (arith, kept _ _ _ c.loop-i.invariant.1)

pub offset_bounds-n-to : goal.offset_bounds-n-to
offset_bounds-n-to c = omega (arith, kept _ _ _ c.loop-i.invariant.1)

pub bounds-n-to : goal.bounds-n-to
bounds-n-to c = omega (arith, kept _ _ _ c.loop-i.invariant.1)

pub loop-i-preserved : goal.loop-i-preserved
loop-i-preserved c =
    let args = c.args in
    (omega arith, set_turn (λ (k : ℕ). u32_at args.b.now (args.at + k * 4)) _ args.to _ _ c.loop-i.invariant.1 c.u32_at.ensures.0 (omega arith))

pub shape_of-n : goal.shape_of-n
shape_of-n c = kept _ _ _ c.loop-i.invariant.1

pub returns : goal.returns
returns c =
    let e : c.loop-i.i ≡ 12 = omega arith in
    c.loop-i.invariant.1 ∙ rw e
