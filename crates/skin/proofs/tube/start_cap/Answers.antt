use Rattle.curve.specs.Samples.{ring_at}
use Rattle.rings.proofs.Laws.{began_ring}
use Rattle.skin.specs.Tube.{ring_positions, ring_normals, ring_tags, start_normal}
use Rattle.skin.proofs.tube.start_cap.Goals as goal

pub put_capped-requires : goal.put_capped-requires
put_capped-requires c = c.requires

pub returns : goal.returns
unfolding ring_positions ring_normals ring_tags start_normal ring_at
returns c = rw (c.scale-back.ensures, c.tag_at-tag.ensures, c.ring-r.ensures, c.frame_at-f.ensures) at (began_ring _ _ c.begun-b.ensures c.put_capped.ensures)
