use mathlib.Core.Path.{refl}
use native.Mathlib.Omega.{arith}
use Prim.Native.Nat.{◌+◌}
use Rattle.vectors.proofs.Flat.{length_eight}
use Rattle.rings.proofs.Laws.{wrote_next, less, room}
use Rattle.rings.proofs.put_capped.Goals as goal

pub put_ring-ring-requires : goal.put_ring-ring-requires
put_ring-ring-requires c = less _ _ c.requires (omega arith)

pub put_vertex-requires : goal.put_vertex-requires
put_vertex-requires c = room _ _ _ _ _ c.put_ring-ring.ensures c.requires (c.args.v + 8 + 1) (omega arith)

pub returns : goal.returns
returns c = wrote_next _ _ _ _ _ _ _ _ c.put_vertex.ensures c.put_ring-ring.ensures refl (length_eight _) (length_eight _)
