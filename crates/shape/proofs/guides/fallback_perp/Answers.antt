use Rattle.shape.specs.Guide.{fallback_perp}
use Rattle.shape.proofs.guides.fallback_perp.Goals as goal

pub returns : goal.returns
unfolding fallback_perp
returns c = cc
