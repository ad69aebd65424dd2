use Rattle.stretch.proofs.Laws.{within_is}
use Rattle.stretch.proofs.is_within.Goals as goal

pub returns : goal.returns
returns c = let pre = c.requires in within_is c.args.g c.args.v pre.0 pre.1 pre.2
