use mathlib.Core.Path.{◌≡◌}
use Prim.Native.Nat.{ℕ, ◌+◌, ◌-◌, ◌*◌, ◌/◌, ◌%◌, ◌^◌, ◌≤◌, ◌<◌}
use native.Mathlib.Omega.{arith}
use lib.Count.{count_leading_zeros}
use Rattle.floats.proofs.RootBits.{lift_ge, lift_le, lifted_ge, lifted_lt, split_is, normal_is, small_is}
use Rattle.floats.proofs.root.lifted.Goals as goal

whole : (m s : ℕ) → 2 ^ 23 ≤ m → m < 2 ^ 24 → s ≤ 23 → ((127 - s) * 2 ^ 23 + m) % 2 ^ 23 + 2 ^ 23 ≡ m
whole m s a b c = omega arith

power : (m s : ℕ) → 2 ^ 23 ≤ m → m < 2 ^ 24 → s ≤ 23 → ((127 - s) * 2 ^ 23 + m) / 2 ^ 23 ≡ 128 - s
power m s a b c = omega arith

pub overflow_sub-s : goal.overflow_sub-s
overflow_sub-s c = lift_ge c.args.b (omega arith) (omega arith)

pub overflow_cast-result : goal.overflow_cast-result
overflow_cast-result c = omega (arith, lift_le c.args.b (omega arith) (omega arith))

pub overflow_sub-result : goal.overflow_sub-result
overflow_sub-result c = omega (arith, lift_le c.args.b (omega arith) (omega arith))

pub overflow_cast-result-then-b-lt8388608-2 : goal.overflow_cast-result-then-b-lt8388608-2
overflow_cast-result-then-b-lt8388608-2 c = omega (arith, lift_le c.args.b (omega arith) (omega arith))

pub overflow_shl-result : goal.overflow_shl-result
overflow_shl-result c = omega (arith, lift_le c.args.b (omega arith) (omega arith))

pub overflow_add-result : goal.overflow_add-result
overflow_add-result c = let b = c.args.b in omega (arith, lift_le b (omega arith) (omega arith), lifted_lt b (omega arith) (omega arith))

pub returns-then-b-lt8388608 : goal.returns-then-b-lt8388608
returns-then-b-lt8388608 c =
    let b : ℕ = c.args.b in
    let p : 0 < b = omega arith in
    let l : b < 2 ^ 23 = omega arith in
    let s : ℕ = count_leading_zeros 32 b - 8 in
    let m : ℕ = b * 2 ^ s % 2 ^ 64 in
    let y : 2 ^ 23 ≤ m = lifted_ge b p l in
    let z : m < 2 ^ 24 = lifted_lt b p l in
    let x : s ≤ 23 = omega (arith, lift_le b p l) in record { lower_bound = (omega arith, omega arith); result_value = small_is b p l _ (split_is ((127 - s) * 2 ^ 23 + m) m (128 - s) (whole m s y z x) (power m s y z x)) }

pub returns : goal.returns
returns c =
    let b : ℕ = c.args.b in record { lower_bound = (omega arith, omega arith); result_value = normal_is b _ (omega arith) (omega arith) (split_is (b + 127 * 2 ^ 23) (b % 2 ^ 23 + 2 ^ 23) (b / 2 ^ 23 + 127) (omega arith) (omega arith)) }
