use Rattle.lists.proofs.Puts.{put1}
use Rattle.rings.proofs.put_vertex.Goals as goal

pub returns : goal.returns
returns c = record { pos = c.put_vec.ensures; norm = c.put_vec-2.ensures; tag = put1 _ _ _; box = c.grown.ensures }
