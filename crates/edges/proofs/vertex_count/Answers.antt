use mathlib.Core.Path.{sym}
use Rattle.edges.proofs.Theorems.{no_tube, ribbon_counts}
use Rattle.edges.proofs.vertex_count.Goals as goal

-- Assumes nothing.

pub returns-then-n-lt2 : goal.returns-then-n-lt2
returns-then-n-lt2 c = sym (no_tube 8 8 0 c.args.n c.if-n-lt2.true).1

pub returns : goal.returns
returns c = sym (ribbon_counts c.args.n c.if-n-lt2.false).1
