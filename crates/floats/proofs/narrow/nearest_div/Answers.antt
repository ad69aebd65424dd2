use Rattle.floats.proofs.Closest.{closest_add}
use Rattle.floats.proofs.narrow.nearest_div.Goals as goal

pub returns : goal.returns
returns c = closest_add c.args.m c.args.u c.requires.1 c.requires.2
