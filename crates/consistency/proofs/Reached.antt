-- What the loop over the tubes has reached: tubes 0 to i - 1 are as they should be. Laws of its start, a turn, its end, and each way to leave it early.
-- Assumes nothing.
use Prim.Native.Nat.{ℕ, ◌+◌, ◌*◌, ◌-◌, ◌<◌, ◌≤◌}
use mathlib.Core.Bool.{true, false, ◌&&◌, and-false}
use mathlib.Core.List.{List}
use mathlib.Core.Path.{◌≡◌, sym, ◌∙◌}
use native.Mathlib.Omega.{arith}
use lib.ListN.{take, drop}
use lib.Dec.{eqb}
use borrow.Author.Tests.{ne_eqb}
use Rattle.lists.specs.Search.{every}
use Rattle.lists.proofs.Searches.{every_none, every_more, every_lost}
use Rattle.buffers.specs.declared.Counts.{Counts}
use Rattle.edges.specs.Tube.{vertex_count, triangle_count}
use Rattle.consistency.specs.Consistent.{residues_at, vertex_start, triangle_start, record_fits, corners_in, own_corners, tube_fits, tubes_fit}
use Rattle.consistency.proofs.Laws.{start_none, start_more, start_up, triangle_none, triangle_more, triangle_up}

-- the sums are those of the first i tubes, which fit, and not past V and T
pub record Reached (tubes corners : List ℕ) (c : Counts) (vertex triangle i : ℕ) : Type 0 where
  pub vertex_is : vertex ≡ vertex_start 8 8 tubes i
  pub triangle_is : triangle ≡ triangle_start 8 8 tubes i
  pub fit : every (tube_fits 8 8 tubes corners) i ≡ true
  pub below : i ≤ c.tubes
  pub within : triangle ≤ c.triangles
  pub inside : vertex ≤ c.vertices

pub reached_none : (tubes corners : List ℕ) (c : Counts) → Reached tubes corners c 0 0 0
reached_none tubes corners c =
    record {
      vertex_is = sym (start_none 8 8 tubes);
      triangle_is = sym (triangle_none 8 8 tubes);
      fit = every_none (tube_fits 8 8 tubes corners);
      below = omega arith;
      within = omega arith;
      inside = omega arith;
    }

module _ (tubes corners : List ℕ) (c : Counts) (vertex triangle i : ℕ) (R : Reached tubes corners c vertex triangle i) where
  -- tube i, at the sums that were reached
  tube_is : tube_fits 8 8 tubes corners i ≡ (record_fits tubes vertex triangle i && own_corners 8 8 corners (residues_at tubes i) vertex triangle)
  unfolding tube_fits
  tube_is = rw (R.vertex_is, R.triangle_is)

  -- its corners, as the code lends them
  own_is : (past end : ℕ) → past ≡ vertex + vertex_count (residues_at tubes i) → end ≡ triangle + triangle_count (residues_at tubes i)
      → own_corners 8 8 corners (residues_at tubes i) vertex triangle ≡ corners_in vertex past (take (3 * end - 3 * triangle) (drop (3 * triangle) corners))
  unfolding own_corners
  own_is past end v t = let e : 3 * end - 3 * triangle ≡ 3 * triangle_count (residues_at tubes i) = omega arith in rw (e, v)

  pub reached_more : (past end : ℕ) → past ≡ vertex + vertex_count (residues_at tubes i) → end ≡ triangle + triangle_count (residues_at tubes i)
      → record_fits tubes vertex triangle i ≡ true → corners_in vertex past (take (3 * end - 3 * triangle) (drop (3 * triangle) corners)) ≡ true
      → i < c.tubes → end ≤ c.triangles → past ≤ c.vertices → Reached tubes corners c past end (i + 1)
  reached_more past end v t r o h m w =
      record {
        vertex_is = omega (arith, v, R.vertex_is, start_more 8 8 tubes i);
        triangle_is = omega (arith, t, R.triangle_is, triangle_more 8 8 tubes i);
        fit = every_more (tube_fits 8 8 tubes corners) i R.fit (tube_is ∙ rw (r, own_is past end v t, o));
        below = omega arith;
        within = m;
        inside = w;
      }

  -- a tube that does not fit
  one_lost : i < c.tubes → tube_fits 8 8 tubes corners i ≡ false → tubes_fit 8 8 tubes corners c ≡ false
  unfolding tubes_fit
  one_lost h q = rw (every_lost (tube_fits 8 8 tubes corners) c.tubes i (omega arith) q)

  pub record_lost : i < c.tubes → record_fits tubes vertex triangle i ≡ false → tubes_fit 8 8 tubes corners c ≡ false
  record_lost h q = one_lost h (tube_is ∙ rw q)

  pub corners_lost : (past end : ℕ) → past ≡ vertex + vertex_count (residues_at tubes i) → end ≡ triangle + triangle_count (residues_at tubes i)
      → record_fits tubes vertex triangle i ≡ true → corners_in vertex past (take (3 * end - 3 * triangle) (drop (3 * triangle) corners)) ≡ false
      → i < c.tubes → tubes_fit 8 8 tubes corners c ≡ false
  corners_lost past end v t r o h = one_lost h (tube_is ∙ rw (r, own_is past end v t, o))

  -- a tube that ends past T: the sums never fall, so they do not end at T
  pub end_lost : (end : ℕ) → end ≡ triangle + triangle_count (residues_at tubes i) → i < c.tubes → c.triangles < end
      → tubes_fit 8 8 tubes corners c ≡ false
  unfolding tubes_fit
  end_lost end t h l =
      let a = triangle_up 8 8 tubes (i + 1) c.tubes (omega arith) in
      let b = triangle_more 8 8 tubes i in
      let n : eqb (triangle_start 8 8 tubes c.tubes) c.triangles ≡ false =
      ne_eqb (triangle_start 8 8 tubes c.tubes) c.triangles (λ q. absurd (omega (arith, a, b, R.triangle_is))) in
      rw n (simp and-false)

  -- nor at V where one ends past it
  pub past_lost : (past : ℕ) → past ≡ vertex + vertex_count (residues_at tubes i) → i < c.tubes → c.vertices < past
      → tubes_fit 8 8 tubes corners c ≡ false
  unfolding tubes_fit
  past_lost past v h l =
      let a = start_up 8 8 tubes (i + 1) c.tubes (omega arith) in
      let b = start_more 8 8 tubes i in
      let n : eqb (vertex_start 8 8 tubes c.tubes) c.vertices ≡ false =
      ne_eqb (vertex_start 8 8 tubes c.tubes) c.vertices (λ q. absurd (omega (arith, a, b, R.vertex_is))) in
      rw n (and-false (every (tube_fits 8 8 tubes corners) c.tubes))

  -- past the last it is the sums that decide
  pub reached_over : c.tubes ≤ i → tubes_fit 8 8 tubes corners c ≡ (eqb vertex c.vertices && eqb triangle c.triangles)
  unfolding tubes_fit
  reached_over h = let q : c.tubes ≡ i = omega (arith, R.below) in rw (q, R.fit, R.vertex_is, R.triangle_is)
