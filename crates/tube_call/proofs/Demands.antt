-- What the promise of the tube call fixes. Assumes nothing.
use Prim.Native.Nat.{ℕ, ◌*◌, ◌+◌}
use mathlib.Core.Bool.{cond}
use mathlib.Core.List.{List}
use mathlib.Core.Path.{◌≡◌, sym, ap, ◌∙◌}
use lib.Dec.{eqb}
use lib.ListN.{get_or}
use Rattle.tube_call.specs.Part.{Tubed, PartFor}

-- any two parts that it allows are equal
pub tube_determined : {tubes triangles : List ℕ} {k : ℕ} {p q : List ℕ}
    → Tubed tubes triangles k p → Tubed tubes triangles k q → p ≡ q
tube_determined a b = a.part ∙ sym b.part

-- and for C: any two places
pub place_determined : {tubes triangles : List ℕ} {k i n j m : ℕ}
    → PartFor tubes triangles k i n → PartFor tubes triangles k j m → (i ≡ j) × (n ≡ m)
place_determined {tubes} {triangles} {k} a b =
    let e = a.size ∙ sym b.size in
    (a.begin ∙ ap (λ (x : ℕ). cond (eqb x 0) 0 (3 * get_or tubes (5 * k + 4) 0)) e ∙ sym b.begin, e)
