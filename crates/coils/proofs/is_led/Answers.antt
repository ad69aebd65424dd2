use mathlib.Core.Path.{◌∙◌}
use Rattle.coils.proofs.Laws.{led_none, led_by}
use Rattle.coils.specs.Coils.{joins_in}
use Rattle.coils.proofs.is_led.Goals as goal

pub returns-then-r-eq0 : goal.returns-then-r-eq0
returns-then-r-eq0 c = led_none (joins_in c.args.t.now c.args.n) _ c.if-r-eq0.true

pub returns : goal.returns
returns c = c.is_joined.ensures ∙ led_by (joins_in c.args.t.now c.args.n) _ c.if-r-eq0.false
