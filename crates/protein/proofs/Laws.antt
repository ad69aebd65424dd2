use Prim.Native.Nat.{ℕ, zero, suc, ◌+◌, ◌≤◌}
use mathlib.Core.List.{List}
use mathlib.Core.Path.{◌≡◌, refl, ◌∙◌, ap}
use native.Mathlib.Omega.{arith}
use lib.ListN.{get_or}
use lib.Dec.{eqb}
use borrow.Author.Tests.{lt-ltb}
use Rattle.protein.specs.Job.{job_of, shown_code}
use Rattle.protein.specs.declared.Head.{Head}

pub shown_code_lem : (s : List ℕ) (h : Head) (code v : ℕ) → (code ≡ 0 → ⊥) → code ≤ h.chains → v ≡ get_or s (12 + code) 0 → eqb v 1 ≡ shown_code (job_of s h) code
shown_code_lem s h zero v n l e = absurd (n refl)
shown_code_lem s h (suc c) v n l e =
    let z : 12 + suc c ≡ 13 + c = omega arith in
    rw (lt-ltb c h.chains (omega arith)) (ap (λ (x : ℕ). eqb x 1) (e ∙ ap (λ (k : ℕ). get_or s k 0) z))
