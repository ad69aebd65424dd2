use Rattle.curve.specs.Samples.{ring_at}
use Rattle.caps.specs.Caps.{end_normal}
use Rattle.skin.specs.Tube.{ring_positions, ring_normals, ring_tags}
use Rattle.skin.proofs.tube.end_cap.Goals as goal

pub returns : goal.returns
unfolding ring_positions ring_normals ring_tags ring_at end_normal
returns c = rw (c.end_normal-normal.ensures, c.tag_at-tag.ensures, c.ring-r.ensures, c.frame_at-f.ensures) at c.put_capped.ensures
