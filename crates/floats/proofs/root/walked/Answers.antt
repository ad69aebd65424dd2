use Prim.Native.Nat.{ℕ, zero, suc, ◌+◌, ◌-◌, ◌*◌, ◌^◌, ◌≤◌, ◌<◌}
use native.Mathlib.Nat.{mul-le-mul, lt_of_not-le, zero-lt-suc}
use native.Mathlib.Omega.{arith}
use Rattle.floats.proofs.Squares.{sq_next, sq_le, near_le}
use Rattle.floats.proofs.root.walked.Goals as goal

-- `floats::root::walked` meets its contract, whatever the start. The first loop brings r down until r * (r - 1) is below n, and the second up until n is at most r * (r + 1).

-- where r * r + r is below n, r is below 2 ^ 24

sq_room : (n r : ℕ) → n < 2 ^ 48 → r * r + r < n → r < 2 ^ 24
sq_room n r h k = lt_of_not-le (λ (g : 2 ^ 24 ≤ r). over n (r * r) r h k (mul-le-mul g g))
  where
    over : (n x r : ℕ) → n < 2 ^ 48 → x + r < n → 2 ^ 48 ≤ x → ⊥
    over n x r a b c = omega arith

-- 0 * 0 is no test that takes one off 0

some : (n r : ℕ) → 0 < n → n + r ≤ r * r → 1 ≤ r
some n zero h k = absurd (none n h k)
  where
    none : (n : ℕ) → 0 < n → n + 0 ≤ 0 → ⊥
    none n a b = omega arith
some n (suc r) h k = zero-lt-suc r

pub loop-r-init : goal.loop-r-init
loop-r-init c = omega arith

pub overflow_add-n : goal.overflow_add-n
overflow_add-n c = omega arith

pub overflow_mul-r : goal.overflow_mul-r
overflow_mul-r c = omega (arith, sq_le c.loop-r.r c.loop-r.invariant)

pub overflow_sub-r : goal.overflow_sub-r
overflow_sub-r c = some c.args.n c.loop-r.r c.requires.0 c.loop-r-test.true

pub loop-r-smaller : goal.loop-r-smaller
loop-r-smaller c = omega (arith, some c.args.n c.loop-r.r c.requires.0 c.loop-r-test.true)

pub loop-r-preserved : goal.loop-r-preserved
loop-r-preserved c = omega arith

pub loop-r-2-init : goal.loop-r-2-init
loop-r-2-init c = omega (arith, near_le c.args.n c.loop-r.r (omega arith) c.loop-r-test.false)

pub overflow_mul-r-in-loop-r-2 : goal.overflow_mul-r-in-loop-r-2
overflow_mul-r-in-loop-r-2 c = omega (arith, sq_le c.loop-r-2.r (omega arith))

pub overflow_add-r : goal.overflow_add-r
overflow_add-r c = omega (arith, sq_le c.loop-r-2.r (omega arith))

pub overflow_add-r-in-loop-r-2 : goal.overflow_add-r-in-loop-r-2
overflow_add-r-in-loop-r-2 c = omega arith

pub loop-r-2-smaller : goal.loop-r-2-smaller
loop-r-2-smaller c = omega (arith, sq_room c.args.n c.loop-r-2.r c.requires.1 c.loop-r-2-test.true)

pub loop-r-2-preserved : goal.loop-r-2-preserved
loop-r-2-preserved c = omega (arith, sq_room c.args.n c.loop-r-2.r c.requires.1 c.loop-r-2-test.true, sq_next c.loop-r-2.r)

pub returns : goal.returns
returns c = omega arith
