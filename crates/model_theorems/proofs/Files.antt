-- The head and the blocks of a consistent mesh are its file. Assumes nothing.
use Rattle.std.specs.Prelude.{Result, ℕ}
use Rattle.job.specs.declared.Refusal.{Refusal}
use Prim.Native.Nat.{ℕ, ◌+◌, ◌*◌, ◌/◌, ◌<◌, ◌≤◌}
use mathlib.Core.Bool.{true}
use mathlib.Core.List.{List, ◌++◌}
use mathlib.Core.Path.{◌≡◌, sym, ap, ◌∙◌}
use native.Mathlib.Omega.{arith}
use lib.Ieee.{Float, nan, binary32, mul}
use lib.ListN.{length, get_or, take, length-take}
use lib.Seq.{get_or-take}
use Rattle.lists.proofs.Puts.{upto_same}
use Rattle.vectors.specs.Vec.{vec_at}
use Rattle.buffers.specs.declared.Counts.{Counts}
use Rattle.buffers.specs.Outs.{Outs, outs}
use Rattle.consistency.specs.Consistent.{consistent}
use Rattle.consistency.proofs.Means.{consistent_means, corner_below}
use Rattle.facets.specs.Facets.{corner_at, facet_at, facets_of, stl_head, stl_bytes, stl_size}
use Rattle.facets.proofs.Laws.{facets_front}
use Rattle.blocks.proofs.Laws.{all_blocks}
use Rattle.scaling.specs.Scale.{factor, scaled, scaled_mesh}
use Rattle.scaling.proofs.Laws.{scaled_place, scaled_one, same_consistency}
use Rattle.stl_writer.specs.Call.{file_of, WritesStl}
use Rattle.stl_theorems.specs.Floats.{AllF32}
use Rattle.stl_theorems.proofs.Written.{written}
use Rattle.model_theorems.specs.Model.{model_positions, model_triangles, model_bytes}

-- corners that are below v read no float past 3v: facets over two lists that agree so far are the same
module _ (p q : List Float) (l : List ℕ) (t v : ℕ) (below : (j : ℕ) → j < 3 * t → get_or l j 0 < v) (same : (i : ℕ) → i < 3 * v → get_or p i nan ≡ get_or q i nan) where
  corner_same : (j : ℕ) → j < 3 * t → corner_at p l j ≡ corner_at q l j
  unfolding vec_at
  corner_same j h =
      let b = below j h in
      rw (same (3 * get_or l j 0) (omega arith), same (3 * get_or l j 0 + 1) (omega arith), same (3 * get_or l j 0 + 2) (omega arith))

  pub facets_placed : facets_of p l t ≡ facets_of q l t
  unfolding facets_of facet_at
  facets_placed =
      upto_same _ _ t (λ i h. rw (corner_same (3 * i) (omega arith), corner_same (3 * i + 1) (omega arith), corner_same (3 * i + 2) (omega arith)))

-- cut and then scaled, or scaled and then cut: so far the floats are the same
cut_same : (k : Float) (l : List Float) (n i : ℕ) → i < n → get_or (scaled k (take n l)) i nan ≡ get_or (scaled k l) i nan
cut_same k l n i h =
    scaled_place k (take n l) i ∙ ap (λ (x : Float). mul binary32 x k) (get_or-take n l i nan h) ∙ sym (scaled_place k l i)

module _ (p d : ℕ) (k : Float) (o : Outs) (c : Counts) (e : consistent p d o c ≡ true) where
  count_is : c.triangles ≡ length (model_triangles o c) / 3
  count_is = omega (arith, length-take (3 * c.triangles) o.triangles, (consistent_means p d o c e).room.triangles)

  pub model_file : model_bytes k o c ≡ file_of (scaled_mesh k o) c
  unfolding model_bytes file_of stl_bytes
  model_file =
      all_blocks (model_positions k o c) (model_triangles o c) c.triangles count_is
      ∙ ap (λ (x : List ℕ). stl_head c.triangles ++ x)
      (facets_front (model_positions k o c) o.triangles c.triangles
      ∙ facets_placed (model_positions k o c) (scaled k o.positions) o.triangles c.triangles c.vertices
      (corner_below p d o c e) (cut_same k o.positions (3 * c.vertices)))

  -- which write_stl writes of the scaled mesh
  pub model_written : {out out' : List ℕ} {r : Result ℕ Refusal} → stl_size c.triangles ≤ length out → WritesStl p d (scaled_mesh k o) c out r out'
      → take (stl_size c.triangles) out' ≡ model_bytes k o c
  model_written h W = (written (same_consistency p d k o c ∙ e) h W).1 ∙ sym model_file

-- times 1 it is the file of the mesh itself
pub model_plain : (p d : ℕ) (o : Outs) (c : Counts) → consistent p d o c ≡ true → AllF32 o.positions → model_bytes (factor 1000) o c ≡ file_of o c
model_plain p d o c e f =
    model_file p d (factor 1000) o c e
    ∙ ap (λ (x : List Float). file_of (outs x o.normals o.tags o.triangles o.tubes o.boxes) c) (scaled_one o.positions f)
