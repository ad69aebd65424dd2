use native.Mathlib.Omega.{arith}
use mathlib.Core.Path.{sym, ap, ◌∙◌}
use mathlib.Core.List.{List}
use Prim.Native.Nat.{ℕ}
use lib.ListN.{get_or}
use Rattle.ribbon_text.proofs.Laws.{then, one_value, three_values}
use borrow.Author.Rules.{rules}
use Rattle.ribbon_text.proofs.put_carried.Goals as goal

pub returns-then-n-ne11 : goal.returns-then-n-ne11
returns-then-n-ne11 c = let e = c.refusal_numbers-n.ensures in (rw (one_value c.args.r (λ q. c.if-n-ne11.true (ap (λ (l : List ℕ). get_or l 0 0) e ∙ q))) at (rw e at c.put_field-a.ensures.0), omega (arith, c.put_field-a.ensures.1))

pub returns : goal.returns
returns c = let e = c.refusal_numbers-n.ensures in (rw (three_values c.args.r (sym (ap (λ (l : List ℕ). get_or l 0 0) e) ∙ c.if-n-ne11.false)) at (rw e at (then _ _ _ _ (then _ _ _ _ c.put_field-a.ensures.0 c.put_field-b.ensures.0) c.put_field.ensures.0)), omega (arith, c.put_field-a.ensures.1, c.put_field-b.ensures.1, c.put_field.ensures.1))
