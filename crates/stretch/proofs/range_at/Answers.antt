use Rattle.stretch.proofs.range_at.Goals as goal

pub returns : goal.returns
returns c = (cc, c.stop-stop.ensures.1)
