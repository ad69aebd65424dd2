-- A consistent mesh is written, or refused for room; by tubes. Assumes nothing.
use Rattle.std.specs.Prelude.{Err, Ok, Result, ℕ}
use Prim.Native.Nat.{ℕ, ◌<◌, ◌≤◌}
use mathlib.Core.Bool.{true}
use mathlib.Core.List.{List, ◌++◌}
use mathlib.Core.Path.{◌≡◌, ◌∙◌, subst}
use lib.ListN.{length, take}
use Rattle.lists.specs.Put.{upto}
use Rattle.job.specs.declared.Refusal.{Refusal}
use Rattle.job.specs.declared.Refusal.TheVariants.{NoStlRoom}
use Rattle.buffers.specs.declared.Counts.{Counts}
use Rattle.buffers.specs.Outs.{Outs}
use Rattle.consistency.specs.Consistent.{consistent}
use Rattle.facets.specs.Facets.{stl_head, stl_size}
use Rattle.stl_writer.specs.Call.{file_of, WritesStl}
use Rattle.stl_writer.proofs.Demands.{always_written, short_refused, only_consistent, file_in_front}
use Rattle.stl_theorems.specs.Floats.{tube_facets}
use Rattle.stl_theorems.proofs.Tubes.{file_by_tubes}

module _ {p d : ℕ} {o : Outs} {c : Counts} {out out' : List ℕ} where
  pub written : {r : Result ℕ Refusal} → consistent p d o c ≡ true → stl_size c.triangles ≤ length out → WritesStl p d o c out r out'
      → (r ≡ Ok (stl_size c.triangles)) × (take (stl_size c.triangles) out' ≡ file_of o c)
  written e h W =
      let q = always_written e h W in
      (q, file_in_front (subst (λ (y : Result ℕ Refusal). WritesStl p d o c out y out') q W))

  pub short : {r : Result ℕ Refusal} → consistent p d o c ≡ true → length out < stl_size c.triangles → WritesStl p d o c out r out' → r ≡ Err (NoStlRoom (stl_size c.triangles))
  short e h W = short_refused e h W

  pub by_tubes : {n : ℕ} → WritesStl p d o c out (Ok n) out' → take n out' ≡ stl_head c.triangles ++ upto (tube_facets p d o) c.tubes
  by_tubes W = file_in_front W ∙ file_by_tubes p d o c (only_consistent W).0
