use mathlib.Core.Path.{◌∙◌}
use Rattle.std.proofs.lemmas.List.{take_rest}
use Rattle.pdb_lines.proofs.Laws.{starts_named}
use Rattle.pdb_lines.proofs.is_at.Goals as goal

pub returns : goal.returns
returns c = rw (take_rest c.args.l.now c.args.from) at c.starts_with.ensures.value ∙ starts_named c.args.l.now c.args.name.now c.args.from
