-- Each answer of write_stl keeps its promise. Assumes nothing.
use Rattle.std.specs.Prelude.{Err, Ok, Result, ℕ}
use Rattle.job.specs.Refusals.{size_numbers}
use Prim.Native.Nat.{ℕ, ◌*◌, ◌<◌, ◌≤◌}
use mathlib.Core.Bool.{true, false}
use mathlib.Core.List.{List, ◌++◌}
use mathlib.Core.Path.{◌≡◌, refl, ap, ◌∙◌}
use native.Mathlib.Omega.{arith}
use lib.ListN.{length, take, length-take}
use lib.Seq.{get_or-take}
use borrow.Author.Tests.{lt-ltb, le-ltb}
use Rattle.lists.specs.Put.{put}
use Rattle.lists.proofs.Puts.{next}
use Rattle.job.specs.declared.Refusal.{Refusal}
use Rattle.job.specs.declared.Refusal.TheVariants.{Inconsistent, NoStlRoom}
use Rattle.buffers.specs.declared.Counts.{Counts}
use Rattle.buffers.specs.Outs.{Outs}
use Rattle.consistency.specs.Consistent.{consistent}
use Rattle.consistency.proofs.Means.{consistent_means, corner_below, triangle_limit}
use Rattle.facets.specs.Facets.{Drawn, stl_head, facets_of, stl_bytes, stl_size}
use Rattle.facets.proofs.Laws.{long_head, facets_front}
use Rattle.stl_writer.specs.Call.{file_of, write_answer, write_by, bytes_after, WritesStl}

-- the promise, of the answer itself
pub by_answer : (p d : ℕ) (o : Outs) (c : Counts) (out : List ℕ) (r : Result ℕ Refusal) (out' : List ℕ) → r ≡ write_answer p d o c (length out) → out' ≡ write_by r o c out
    → WritesStl p d o c out r out'
unfolding bytes_after
by_answer p d o c out r out' e w = record { answer = ap size_numbers e; bytes = w ∙ ap (λ (x : Result ℕ Refusal). write_by x o c out) e }

module _ (p d : ℕ) (o : Outs) (c : Counts) (room : ℕ) where
  pub at_17 : consistent p d o c ≡ false → Err Inconsistent ≡ write_answer p d o c room
  unfolding write_answer
  at_17 e = rw e refl

  pub at_18 : consistent p d o c ≡ true → room < stl_size c.triangles → Err (NoStlRoom (stl_size c.triangles)) ≡ write_answer p d o c room
  unfolding write_answer
  at_18 e h = rw (e, lt-ltb room (stl_size c.triangles) h) refl

  pub at_file : consistent p d o c ≡ true → stl_size c.triangles ≤ room → Ok (stl_size c.triangles) ≡ write_answer p d o c room
  unfolding write_answer
  at_file e h = rw (e, le-ltb room (stl_size c.triangles) h) refl

-- ---- what the writing asks for

module _ (o : Outs) (c : Counts) (e : consistent 8 8 o c ≡ true) where
  pub few : c.triangles ≤ 2097152
  few = triangle_limit o c e

  pub corners_there : 3 * c.triangles ≤ length o.triangles
  corners_there = (consistent_means 8 8 o c e).room.triangles

  -- every corner of the T triangles is a vertex that the positions have
  pub drawn : Drawn o.positions (take (3 * c.triangles) o.triangles)
  drawn j h =
      let n : j < 3 * c.triangles = omega (arith, length-take (3 * c.triangles) o.triangles, corners_there) in
      let b = corner_below 8 8 o c e j n in
      let r = (consistent_means 8 8 o c e).room.positions in
      rw (get_or-take (3 * c.triangles) o.triangles j 0 n) (omega arith)

-- ---- what was written: the head, and the facets of the T triangles

pub file_made : (o : Outs) (c : Counts) (n : ℕ) (out b₁ b₂ : List ℕ) → n ≡ c.triangles → b₁ ≡ put out 0 (stl_head c.triangles)
    → b₂ ≡ put b₁ 84 (facets_of o.positions (take (3 * c.triangles) o.triangles) n) → b₂ ≡ put out 0 (file_of o c)
unfolding file_of stl_bytes
file_made o c n out b₁ b₂ q e₁ e₂ =
    next out b₁ 0 84 (stl_head c.triangles) _ e₂ e₁ (omega (arith, long_head c.triangles))
    ∙ ap (λ (l : List ℕ). put out 0 (stl_head c.triangles ++ l)) (ap (facets_of o.positions (take (3 * c.triangles) o.triangles)) q ∙ facets_front o.positions o.triangles c.triangles)
