use Rattle.vectors.specs.Vec.{normalised}
use Rattle.shape.specs.Guide.{upright}
use Rattle.shape.proofs.guides.upright.Goals as goal

pub returns-then-l-limit : goal.returns-then-l-limit
unfolding upright
returns-then-l-limit c = rw (← c.across-perp.ensures, ← c.length-l.ensures, c.if-l-limit.true) c.fallback_perp.ensures

pub returns : goal.returns
unfolding upright normalised
returns c = rw (← c.across-perp.ensures, ← c.length-l.ensures, c.if-l-limit.false) c.normalised_by.ensures
