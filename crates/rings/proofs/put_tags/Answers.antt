use native.Mathlib.Omega.{arith}
use Rattle.lists.proofs.Puts.{filled_part}
use Rattle.rings.proofs.put_tags.Goals as goal

pub returns : goal.returns
returns c = filled_part c.args.out.now c.args.at _ 8 c.args.tag (c.fill.ensures.after (λ y e. e)) (omega arith) c.requires
