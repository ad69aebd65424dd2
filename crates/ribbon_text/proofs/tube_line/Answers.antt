use Rattle.ribbon_text.proofs.Laws.{then, counts}
use native.Mathlib.Omega.{arith}
use Rattle.ribbon_text.specs.Text.{tube_line}
use Rattle.ribbon_text.proofs.Laws.{then}
use Rattle.lists.proofs.Puts.{kept}
use borrow.Author.Rules.{rules}
use Rattle.ribbon_text.proofs.tube_line.Goals as goal

pub put_text-requires : goal.put_text-requires
put_text-requires c = omega (arith, c.requires, kept _ _ _ c.put_field-a.ensures.0.0, kept _ _ _ c.put_field-b.ensures.0.0, kept _ _ _ c.put_field-c.ensures.0.0, kept _ _ _ c.put_field-d.ensures.0.0, kept _ _ _ c.put_field-e.ensures.0.0, kept _ _ _ c.put_field-f.ensures.0.0, c.put_field-a.ensures.1, c.put_field-b.ensures.1, c.put_field-c.ensures.1, c.put_field-d.ensures.1, c.put_field-e.ensures.1, c.put_field-f.ensures.1)

pub shape_of-out : goal.shape_of-out
shape_of-out c = omega (arith, kept _ _ _ c.put_text.ensures.0, kept _ _ _ c.put_field-a.ensures.0.0, kept _ _ _ c.put_field-b.ensures.0.0, kept _ _ _ c.put_field-c.ensures.0.0, kept _ _ _ c.put_field-d.ensures.0.0, kept _ _ _ c.put_field-e.ensures.0.0, kept _ _ _ c.put_field-f.ensures.0.0)

pub returns : goal.returns
unfolding tube_line
returns c =
    let p = c.put_field-a.ensures in
    let q = c.put_field-b.ensures in
    let r = c.put_field-c.ensures in
    let s = c.put_field-d.ensures in
    let t = c.put_field-e.ensures in
    let u = c.put_field-f.ensures in
    let v = c.put_text.ensures in record { wrote = then _ _ _ _ (then _ _ _ _ (then _ _ _ _ (then _ _ _ _ (then _ _ _ _ (then _ _ _ _ p.0 q.0) r.0) s.0) t.0) u.0) v; prefix_len = counts _ _ (omega (arith, v.1, kept _ _ _ v.0, c.requires, kept _ _ _ p.0.0, p.1, kept _ _ _ q.0.0, q.1, kept _ _ _ r.0.0, r.1, kept _ _ _ s.0.0, s.1, kept _ _ _ t.0.0, t.1, kept _ _ _ u.0.0, u.1)) }
