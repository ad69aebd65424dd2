use Rattle.floats.proofs.RootBits.{near_one_is}
use Rattle.floats.proofs.root.near_one.Goals as goal

pub returns : goal.returns
returns c = near_one_is c.args.b c.requires.0 c.requires.1
