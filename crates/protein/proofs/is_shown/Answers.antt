use Rattle.protein.proofs.Laws.{shown_code_lem}
use Rattle.protein.proofs.is_shown.Goals as goal

pub returns : goal.returns
returns c = shown_code_lem c.args.b.now c.args.h _ _ c.if-code-eq0.false c.requires.1 c.byte_at.ensures.0
