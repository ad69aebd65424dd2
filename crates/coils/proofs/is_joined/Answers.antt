use Rattle.coils.proofs.Laws.{no_number, no_cover, no_alpha, by_chain}
use Rattle.coils.proofs.is_joined.Goals as goal

pub returns-then-n-r : goal.returns-then-n-r
returns-then-n-r c = no_number _ _ _ _ c.if-n-r.true

pub returns-then-t-n-eq0 : goal.returns-then-t-n-eq0
returns-then-t-n-eq0 c = no_cover _ _ _ _ c.if-n-r.false c.if-t-n-eq0.true

pub returns-then-t-n-eq0-2 : goal.returns-then-t-n-eq0-2
returns-then-t-n-eq0-2 c = no_alpha _ _ _ _ c.if-n-r.false c.if-t-n-eq0.false c.if-t-n-eq0-2.true

pub returns : goal.returns
returns c = by_chain _ _ _ _ c.if-n-r.false c.if-t-n-eq0.false c.if-t-n-eq0-2.false
