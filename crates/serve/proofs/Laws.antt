-- A tube request that is served has the bytes of its two buffers. Assumes nothing.
use mathlib.Core.Path.{◌≡◌}
use mathlib.Core.Bool.{true, false}
use Prim.Native.Nat.{◌+◌, ◌*◌}
use lib.Dec.{eqb}
use borrow.Author.Tests.{eqb-true, ne_eqb}
use Rattle.stream.specs.Requests.{party, known}
use Rattle.stream.specs.declared.requests.Request.{Request}
use Rattle.lists.proofs.Bools.{and_right}

pub known_sized : (r : Request) → known r ≡ true → party r ≡ false → (r.call ≡ 1 → ⊥) → (r.call ≡ 2 → ⊥)
    → r.bytes ≡ 4 * (r.lent.tubes + r.lent.triangles)
known_sized r h p a b =
    let e = and_right (eqb r.call 3) _ (rw (ne_eqb r.call 1 a, ne_eqb r.call 2 b, p) at h) in
    eqb-true _ _ e
