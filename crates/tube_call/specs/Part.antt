-- What the tube call answers: 01, 'Shape of a tube'.
use Rattle.std.specs.Prelude.{ℕ, ◌+◌, ◌*◌, ◌/◌, ◌≤◌, List, [], cond, ◌&&◌, ◌≡◌, length, get_or, take, drop, eqb, ltb, leb}
use Rattle.edges.specs.Tube.{triangle_count}

-- 'That part is 3(128n-112) words from three times the tube's first triangle. It returns an empty part if k has no five words in the tube buffer,
-- if n is not 2 to 16,384, or if the part would leave the buffer'
unfoldable pub tube_part : List ℕ → List ℕ → ℕ → List ℕ
tube_part tubes triangles k =
    let n = get_or tubes (5 * k + 2) 0 in
    let from = 3 * get_or tubes (5 * k + 4) 0 in
    let size = 3 * triangle_count n in
    cond (ltb k (length tubes / 5) && (leb 2 n && (leb n 16384 && leb (from + size) (length triangles)))) (take size (drop from triangles)) []

-- THE PROMISE of the tube call: of a tube buffer, a triangle buffer and a tube number k it hands out the part p of the caller's own triangle buffer
pub record Tubed (tubes triangles : List ℕ) (k : ℕ) (p : List ℕ) : Type 0 where
  pub part : p ≡ tube_part tubes triangles k

-- and for C, where that part stands: n words from place `start` on, 'from three times the tube's first triangle'; 0 where the part is empty
pub record PartFor (tubes triangles : List ℕ) (k start n : ℕ) : Type 0 where
  pub size : n ≡ length (tube_part tubes triangles k)
  pub begin : start ≡ cond (eqb n 0) 0 (3 * get_or tubes (5 * k + 4) 0)
  pub within : start + n ≤ length triangles
  pub there : Tubed tubes triangles k (take n (drop start triangles))
