use Prim.Native.Nat.{ℕ, ◌+◌, ◌*◌, ◌/◌, ◌^◌, ◌≤◌, ◌<◌}
use native.Mathlib.Nat.{le_of_lt, mul-le-mul}
use native.Mathlib.Omega.{arith}
use Rattle.floats.proofs.root.value.Goals as goal

-- `floats::root::value` meets its contract: no sum is too large, and what is taken off is below 2 ^ 52, by the widths of the coefficients alone.

below : (a b x y : ℕ) → x < a → y < b → x * y ≤ a * b
below a b x y h l = mul-le-mul (le_of_lt h) (le_of_lt l)

bent : (x y d : ℕ) → x < 2 ^ 32 → y < 2 ^ 16 → d < 2 ^ 19 → d * d / 16384 * (x * 128 + y * d) ≤ 2 ^ 63 + 2 ^ 59
bent x y d h k l =
    let a : d * d / 16384 ≤ 2 ^ 24 = omega (arith, below (2 ^ 19) (2 ^ 19) d d l l) in
    let b : x * 128 + y * d ≤ 2 ^ 39 + 2 ^ 35 = omega (arith, below (2 ^ 16) (2 ^ 19) y d k l) in
    mul-le-mul a b

pub overflow_mul-bend-2 : goal.overflow_mul-bend-2
overflow_mul-bend-2 c = let s = c.args in omega (arith, below (2 ^ 16) (2 ^ 19) s.c.3 s.d (omega arith) (omega arith))

pub overflow_add-bend : goal.overflow_add-bend
overflow_add-bend c = let s = c.args in omega (arith, below (2 ^ 16) (2 ^ 19) s.c.3 s.d (omega arith) (omega arith))

pub overflow_mul-less : goal.overflow_mul-less
overflow_mul-less c = let s = c.args in omega (arith, below (2 ^ 32) (2 ^ 19) s.c.1 s.d (omega arith) (omega arith))

pub overflow_mul-less-2 : goal.overflow_mul-less-2
overflow_mul-less-2 c = let s = c.args in omega (arith, below (2 ^ 19) (2 ^ 19) s.d s.d (omega arith) (omega arith))

pub overflow_mul-less-3 : goal.overflow_mul-less-3
overflow_mul-less-3 c = let s = c.args in omega (arith, bent s.c.2 s.c.3 s.d (omega arith) (omega arith) (omega arith))

pub overflow_add-less : goal.overflow_add-less
overflow_add-less c = let s = c.args in omega (arith, below (2 ^ 32) (2 ^ 19) s.c.1 s.d (omega arith) (omega arith), bent s.c.2 s.c.3 s.d (omega arith) (omega arith) (omega arith))

pub overflow_sub-result : goal.overflow_sub-result
overflow_sub-result c = let s = c.args in omega (arith, below (2 ^ 32) (2 ^ 19) s.c.1 s.d (omega arith) (omega arith), bent s.c.2 s.c.3 s.d (omega arith) (omega arith) (omega arith))
