use Rattle.lists.proofs.Puts.{kept}
use native.Mathlib.Omega.{arith}
use Rattle.ribbon_text.proofs.Laws.{then, counts}
use Rattle.ribbon_text.specs.Text.{totals_line}
use Rattle.ribbon_text.proofs.Laws.{then}
use borrow.Author.Rules.{rules}
use Rattle.ribbon_text.proofs.totals_line.Goals as goal

pub returns : goal.returns
unfolding totals_line
returns c =
    let p = c.put_field-a.ensures in
    let q = c.put_field-b.ensures in
    let r = c.put_field-c.ensures in
    let s = c.put_text.ensures in record { wrote = then _ _ _ _ (then _ _ _ _ (then _ _ _ _ p.0 q.0) r.0) s; prefix_len = counts _ _ (omega (arith, s.1, kept _ _ _ s.0, c.requires, kept _ _ _ p.0.0, p.1, kept _ _ _ q.0.0, q.1, kept _ _ _ r.0.0, r.1)) }
