use mathlib.Core.Path.{sym, ap, ◌∙◌}
use Rattle.std.specs.Prelude.{Option, unwrap_or}
use Rattle.vectors.specs.declared.Vec3.{Vec3}
use Rattle.vectors.specs.Vec.{vzero}
use Rattle.vectors.proofs.Directions.{normalised_by_is}
use Rattle.vectors.proofs.Vec3.normalised_by.Goals as goal

pub returns : goal.returns
returns c = c.unwrap_or.ensures ∙ ap (λ (d : Option Vec3). unwrap_or d vzero) c.direction_by.ensures ∙ sym (normalised_by_is _ _)
