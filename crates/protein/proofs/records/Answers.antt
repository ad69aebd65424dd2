use Prim.Native.Nat.{ℕ, ◌+◌, ◌*◌}
use mathlib.Core.Path.{ap}
use native.Mathlib.Nat.{add-sub_cancel_left}
use lib.ListN.{take, drop}
use Rattle.protein.proofs.records.Goals as goal

pub returns : goal.returns
returns c =
    let args = c.args in
    let from = 13 + args.h.chains in
    ap (λ (n : ℕ). take n (drop from args.b.now)) (add-sub_cancel_left from (9 * args.h.segments))
