use Rattle.rings.proofs.put_ring.Goals as goal

pub returns : goal.returns
returns c = record { pos = c.put_eight.ensures; norm = c.put_eight-2.ensures; tag = c.put_tags.ensures; box = c.over_eight.ensures }
