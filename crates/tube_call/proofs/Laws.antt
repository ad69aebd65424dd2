-- The part that the tube call answers, exit by exit. Assumes nothing.
use Prim.Native.Nat.{ℕ, ◌+◌, ◌-◌, ◌*◌, ◌/◌, ◌<◌, ◌≤◌}
use mathlib.Core.Bool.{and-false}
use mathlib.Core.List.{List, []}
use mathlib.Core.Path.{◌≡◌}
use native.Mathlib.Omega.{arith}
use lib.ListN.{length, get_or, take, drop}
use borrow.Author.Tests.{lt-ltb, le-ltb, lt-leb, le-leb}
use Rattle.edges.specs.Tube.{triangle_count}
use Rattle.tube_call.specs.Part.{tube_part}

module _ (tubes triangles : List ℕ) (k : ℕ) where
  pub part_none : length tubes / 5 ≤ k → [] ≡ tube_part tubes triangles k
  unfolding tube_part
  part_none h = rw (le-ltb k (length tubes / 5) h)

  pub part_few : get_or tubes (5 * k + 2) 0 < 2 → [] ≡ tube_part tubes triangles k
  unfolding tube_part
  part_few h = rw (lt-leb 2 (get_or tubes (5 * k + 2) 0) h, and-false)

  pub part_many : 16384 < get_or tubes (5 * k + 2) 0 → [] ≡ tube_part tubes triangles k
  unfolding tube_part
  part_many h = rw (lt-leb (get_or tubes (5 * k + 2) 0) 16384 h, and-false, and-false)

  pub part_out : length triangles < 3 * get_or tubes (5 * k + 4) 0 + 3 * triangle_count (get_or tubes (5 * k + 2) 0) → [] ≡ tube_part tubes triangles k
  unfolding tube_part
  part_out h = rw (lt-leb (3 * get_or tubes (5 * k + 4) 0 + 3 * triangle_count (get_or tubes (5 * k + 2) 0)) (length triangles) h, and-false, and-false, and-false)

  pub part_in : k < length tubes / 5 → 2 ≤ get_or tubes (5 * k + 2) 0 → get_or tubes (5 * k + 2) 0 ≤ 16384
      → 3 * get_or tubes (5 * k + 4) 0 + 3 * triangle_count (get_or tubes (5 * k + 2) 0) ≤ length triangles
      → take (3 * get_or tubes (5 * k + 4) 0 + 3 * triangle_count (get_or tubes (5 * k + 2) 0) - 3 * get_or tubes (5 * k + 4) 0) (drop (3 * get_or tubes (5 * k + 4) 0) triangles) ≡ tube_part tubes triangles k
  unfolding tube_part
  part_in a b c d =
      let z : 3 * get_or tubes (5 * k + 4) 0 + 3 * triangle_count (get_or tubes (5 * k + 2) 0) - 3 * get_or tubes (5 * k + 4) 0 ≡ 3 * triangle_count (get_or tubes (5 * k + 2) 0) = omega arith in
      rw (z, lt-ltb k (length tubes / 5) a, le-leb 2 (get_or tubes (5 * k + 2) 0) b, le-leb (get_or tubes (5 * k + 2) 0) 16384 c, le-leb (3 * get_or tubes (5 * k + 4) 0 + 3 * triangle_count (get_or tubes (5 * k + 2) 0)) (length triangles) d)
