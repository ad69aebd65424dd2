-- A tube's part that is not empty lies in the buffer. Assumes nothing.
use mathlib.Core.Path.{◌≡◌, refl, sym, ap, ◌∙◌}
use mathlib.Core.Bool.{Bool, true, false, cond, ◌&&◌}
use mathlib.Core.List.{List, []}
use Prim.Native.Nat.{ℕ, ◌+◌, ◌*◌, ◌/◌, ◌≤◌, ◌<◌}
use native.Mathlib.Omega.{arith}
use lib.Dec.{ltb, leb}
use lib.ListN.{length, take, drop, get_or, length-drop}
use lib.Seq.{length-take-le}
use borrow.Author.Tests.{ltb-true, leb-true, ne_eqb}
use Rattle.edges.specs.Tube.{triangle_count}
use Rattle.tube_call.specs.Part.{tube_part, PartFor}
use Rattle.lists.proofs.Bools.{and_left, and_right}
use Rattle.lists.proofs.Any.{no_elements}

-- the test of `tube_part` holds where the part is not empty
tested : (t : Bool) (l : List ℕ) → (length (cond t l []) ≡ 0 → ⊥) → t ≡ true
tested true l h = refl
tested false l h = absurd (h refl)

module _ (tubes triangles : List ℕ) (k : ℕ) where
  abbrev from : ℕ
  from = 3 * get_or tubes (5 * k + 4) 0

  abbrev many : ℕ
  many = get_or tubes (5 * k + 2) 0

  abbrev size : ℕ
  size = 3 * triangle_count many

  abbrev test : Bool
  test = ltb k (length tubes / 5) && (leb 2 many && (leb many 16384 && leb (from + size) (length triangles)))

  full : (length (tube_part tubes triangles k) ≡ 0 → ⊥) → test ≡ true
  unfolding tube_part
  full h = tested test _ h

  pub listed : (length (tube_part tubes triangles k) ≡ 0 → ⊥) → 5 * k + 4 < length tubes
  listed h = omega (arith, ltb-true k (length tubes / 5) (and_left (ltb k (length tubes / 5)) (leb 2 many && (leb many 16384 && leb (from + size) (length triangles))) (full h)))

  whole : test ≡ true → tube_part tubes triangles k ≡ take size (drop from triangles)
  unfolding tube_part
  whole e = rw e

  pub part_full : (n : ℕ) → n ≡ length (tube_part tubes triangles k) → (n ≡ 0 → ⊥) → PartFor tubes triangles k from n
  part_full n e h =
      let t : test ≡ true = full (λ z. h (e ∙ z)) in
      let i : from + size ≤ length triangles =
      leb-true (from + size) (length triangles) (and_right (leb many 16384) _ (and_right (leb 2 many) _ (and_right (ltb k (length tubes / 5)) _ t))) in
      let m : n ≡ size = e ∙ ap length (whole t) ∙ length-take-le size (drop from triangles) (simp length-drop (omega arith)) in
      record { size = e; begin = rw (ne_eqb n 0 h); within = omega arith; there = record { part = rw m (sym (whole t)) } }

  pub part_empty : 0 ≡ length (tube_part tubes triangles k) → PartFor tubes triangles k 0 0
  part_empty e = record { size = e; begin = refl; within = omega arith; there = record { part = no_elements _ (sym e) } }
