-- The facets of a mesh's tubes, one after the other, are the file's. Assumes nothing.
use Prim.Native.Nat.{ℕ, zero, suc, ◌*◌}
use mathlib.Core.Bool.{true}
use mathlib.Core.List.{List, ◌++◌}
use mathlib.Core.Path.{◌≡◌, sym, ap, ap₂, ◌∙◌}
use native.Mathlib.Numerals.{add-one}
use lib.ListN.{take, drop}
use Rattle.lists.specs.Put.{upto}
use Rattle.lists.proofs.Puts.{upto_same}
use Rattle.edges.specs.Tube.{triangles}
use Rattle.buffers.specs.declared.Counts.{Counts}
use Rattle.buffers.specs.Outs.{Outs}
use Rattle.consistency.specs.Consistent.{residues_at, first_triangle_at, triangle_start, consistent}
use Rattle.consistency.proofs.Laws.{triangle_none, triangle_more}
use Rattle.consistency.proofs.Means.{consistent_means}
use Rattle.facets.specs.Facets.{facets_of, stl_head, stl_bytes}
use Rattle.facets.proofs.Laws.{facets_split, facets_front}
use Rattle.stl_writer.specs.Call.{file_of}
use Rattle.stl_theorems.specs.Floats.{tube_facets}

module _ (p d : ℕ) (o : Outs) where
  abbrev start : ℕ → ℕ
  start i = triangle_start p d o.tubes i

  abbrev many : ℕ → ℕ
  many i = triangles p d (residues_at o.tubes i)

  -- by the running sums
  abbrev summed : ℕ → List ℕ
  summed i = facets_of o.positions (take (3 * many i) (drop (3 * start i) o.triangles)) (many i)

  so_far : (i : ℕ) → facets_of o.positions o.triangles (start i) ≡ upto summed i
  unfolding facets_of upto
  so_far zero = ap (facets_of o.positions o.triangles) (triangle_none p d o.tubes)
  so_far (suc i) =
      ap (facets_of o.positions o.triangles) (ap (triangle_start p d o.tubes) (sym (add-one i)) ∙ triangle_more p d o.tubes i)
      ∙ facets_split o.positions o.triangles (start i) (many i)
      ∙ ap₂ (λ (x y : List ℕ). x ++ y) (so_far i) (sym (facets_front o.positions (drop (3 * start i) o.triangles) (many i)))

  -- by the records, which say the same of consistent buffers
  pub file_by_tubes : (c : Counts) → consistent p d o c ≡ true → file_of o c ≡ stl_head c.triangles ++ upto (tube_facets p d o) c.tubes
  unfolding file_of stl_bytes tube_facets
  file_by_tubes c e =
      let M = consistent_means p d o c e in
      ap (λ (l : List ℕ). stl_head c.triangles ++ l)
      (ap (facets_of o.positions o.triangles) (sym M.triangle_end) ∙ so_far c.tubes
      ∙ upto_same summed (tube_facets p d o) c.tubes (λ i h. same i (M.triangle_starts i h)))
    where
      same : (i : ℕ) → first_triangle_at o.tubes i ≡ start i → summed i ≡ tube_facets p d o i
      same i q = ap (λ (a : ℕ). facets_of o.positions (take (3 * many i) (drop (3 * a) o.triangles)) (many i)) (sym q)
