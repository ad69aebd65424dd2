-- Two residues make a tube, and fewer make none. Assumes nothing.
use mathlib.Core.Path.{◌≡◌, refl}
use mathlib.Core.List.{[]}
use Prim.Native.Nat.{ℕ, zero, suc, ◌*◌, ◌-◌, ◌≤◌, ◌<◌}
use native.Mathlib.Omega.{arith}
use borrow.Author.Tests.{le-ltb}
use Rattle.edges.specs.Tube.{rings, vertices, triangles, stack, tube}

pub under_two : (p d o n : ℕ) → n < 2 → (rings d n ≡ 0) × (vertices p d n ≡ 0) × (triangles p d n ≡ 0) × (tube p d o n ≡ [])
unfolding rings vertices triangles tube
under_two p d o zero h = (refl, refl, refl, refl)
under_two p d o (suc zero) h = (refl, refl, refl, refl)
under_two p d o (suc (suc n)) h =
    let never : ⊥ = omega arith in
    absurd never

pub from_two_lem : (p d o n : ℕ) → 2 ≤ n → tube p d o n ≡ stack p o (d * (n - 1))
unfolding tube
from_two_lem p d o n h = simp (le-ltb n 2 h)
