use mathlib.Core.Path.{subst}
use Prim.Native.Nat.{ℕ, ◌+◌, ◌/◌, ◌%◌, ◌^◌}
use native.Mathlib.Omega.{arith}
use Rattle.floats.proofs.Squares.{Near}
use Rattle.floats.proofs.RootBits.{scaled_is, scaled_lt, scaled_ge, positive_is}
use Rattle.floats.proofs.root.positive.Goals as goal

pub nearest_root-q-requires : goal.nearest_root-q-requires
nearest_root-q-requires c =
    let m : ℕ = c.args.t % 2 ^ 23 + 2 ^ 23 in
    let g : ℕ = c.args.t / 2 ^ 23 in
    let e = scaled_is m g (omega arith) (omega arith) in
    let l = scaled_lt m g (omega arith) (omega arith) in
    let h = scaled_ge m g (omega arith) (omega arith) in
    omega arith

pub returns : goal.returns
returns c =
    let m : ℕ = c.args.t % 2 ^ 23 + 2 ^ 23 in
    let g : ℕ = c.args.t / 2 ^ 23 in
    let q = c.nearest_root-q.result in
    let n = c.nearest_root-q.ensures in
    positive_is m g (omega arith) (omega arith) q (omega arith) (omega arith) (subst (λ (x : ℕ). Near x q) (scaled_is m g (omega arith) (omega arith)) (n.0, n.1)) n.2
