use Prim.Native.Nat.{◌≤◌, ◌-◌}
use mathlib.Core.Path.{◌≡◌, refl, ◌∙◌}
use native.Mathlib.Omega.{arith}
use Rattle.lists.specs.Put.{put, upto}
use Rattle.lists.proofs.Puts.{turn, kept}
use Rattle.facets.specs.Facets.{one_normal, one_corners, listed_normals, listed_corners}
use Rattle.facets.proofs.Laws.{long_normal, long_corners}
use borrow.Author.Rules.{rules}
use Rattle.facets.proofs.list_facets.Given as goal

abbrev pub invariant-loop-i : goal.invariant-loop-i
invariant-loop-i l = (l.i ≤ l.t) × (l.corners ≡ put l.initial.corners 0 (listed_corners l.file l.i)) × (l.normals ≡ put l.initial.normals 0 (listed_normals l.file l.i))
