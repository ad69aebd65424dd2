use mathlib.Core.Path.{◌≡◌, refl, ◌∙◌, ap}
use Rattle.facets.proofs.Laws.{long_at, facet_made}
use Prim.Native.Nat.{◌≤◌, ◌-◌, ◌+◌, ◌*◌, ◌/◌}
use mathlib.Core.Path.{◌≡◌, refl, ◌∙◌}
use lib.ListN.{length}
use native.Mathlib.Omega.{arith}
use Rattle.lists.specs.Put.{put, upto}
use Rattle.lists.proofs.Puts.{turn, kept}
use Rattle.facets.specs.Facets.{facet_at, facets_of}
use Rattle.facets.proofs.Laws.{long_at}
use borrow.Author.Rules.{rules}
use Rattle.facets.proofs.put_facets.Given as goal

abbrev pub invariant-loop-i : goal.invariant-loop-i
invariant-loop-i l = (l.i ≤ l.n) × (l.n ≡ length l.d.triangles.now / 3) × (l.out ≡ put l.initial.out l.at (facets_of l.d.positions.now l.d.triangles.now l.i))
