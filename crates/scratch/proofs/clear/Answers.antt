use native.Mathlib.Omega.{arith}
use Rattle.lists.proofs.Puts.{filled_part}
use Rattle.scratch.proofs.Laws.{fill_put}
use Rattle.scratch.proofs.clear.Goals as goal

pub returns : goal.returns
returns c = fill_put 0 c.args.from c.args.n c.args.t.now (filled_part c.args.t.now c.args.from _ c.args.n 0 (c.fill.ensures.after (λ y e. e)) (omega arith) c.requires) c.requires
