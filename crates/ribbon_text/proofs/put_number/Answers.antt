use native.Mathlib.Omega.{arith}
use mathlib.Core.Path.{ap, ◌∙◌}
use lib.ListN.{length}
use Rattle.ribbon_text.specs.Text.{decimal}
use Rattle.ribbon_text.proofs.Laws.{decimal_digits, decimal_short}
use borrow.Author.Rules.{rules}
use Rattle.ribbon_text.proofs.put_number.Goals as goal

pub put_text-requires : goal.put_text-requires
put_text-requires c =
    let p = c.decimal-k in
    let e = p.ensures.digits ∙ decimal_digits c.args.n p.result (omega arith) p.ensures.len in omega (arith, ap length e, decimal_short c.args.n)

pub returns : goal.returns
returns c =
    let p = c.decimal-k in
    let e = p.ensures.digits ∙ decimal_digits c.args.n p.result (omega arith) p.ensures.len in let w = rw e at c.put_text.ensures in (w, omega (arith, w.1, decimal_short c.args.n))
