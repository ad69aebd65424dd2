use native.Mathlib.Omega.{arith}
use Rattle.ribbon_text.specs.Text.{field}
use Rattle.ribbon_text.proofs.Laws.{then}
use borrow.Author.Rules.{rules}
use Rattle.ribbon_text.proofs.put_field.Goals as goal

pub returns : goal.returns
unfolding field
returns c = (then _ _ _ _ c.put_text-next.ensures c.put_number.ensures.0, omega (arith, c.put_text-next.ensures.1, c.put_number.ensures.1))
