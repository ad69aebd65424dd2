use mathlib.Core.Path.{sym, ◌∙◌}
use native.Mathlib.Omega.{arith}
use Rattle.pdb_fields.specs.Numbers.{thousandths, end_thousandths}
use Rattle.pdb_fields.proofs.Laws.{ten_pos, ten_more, no_digit, no_point, not_three, not_blank, all_right, blank_yes, blank_no}
use borrow.Author.Rules.{rules}
use Rattle.pdb_fields.proofs.thousandths_in.Goals as goal

pub digits-d-requires : goal.digits-d-requires
digits-d-requires c = (omega arith, omega arith, ten_pos _)

pub returns-then-next-a : goal.returns-then-next-a
unfolding thousandths
returns-then-next-a c = no_digit _ _ _ _ _ c.past_blanks-a.ensures.0 c.lead_at-m.ensures.0 c.digits-d.ensures.0 end_thousandths c.if-next-a.true

pub returns-then-lead_at-ne1 : goal.returns-then-lead_at-ne1
returns-then-lead_at-ne1 c = no_point _ _ _ _ _ c.past_blanks-a.ensures.0 c.lead_at-m.ensures.0 c.digits-d.ensures.0 c.if-next-a.false (λ z. c.if-lead_at-ne1.true (c.lead_at.ensures.0 ∙ z))

pub digits-e-requires : goal.digits-e-requires
digits-e-requires c = (omega arith, omega arith, ten_more _ _ c.digits-d.ensures.1)

pub returns-then-end-next : goal.returns-then-end-next
returns-then-end-next c = not_three _ _ _ _ _ c.past_blanks-a.ensures.0 c.lead_at-m.ensures.0 c.digits-d.ensures.0 c.if-next-a.false (sym c.lead_at.ensures.0 ∙ c.if-lead_at-ne1.false) _ _ c.digits-e.ensures.0 c.if-end-next.true

pub returns-then-past_blanks-l : goal.returns-then-past_blanks-l
returns-then-past_blanks-l c = not_blank _ _ _ _ _ c.past_blanks-a.ensures.0 c.lead_at-m.ensures.0 c.digits-d.ensures.0 c.if-next-a.false (sym c.lead_at.ensures.0 ∙ c.if-lead_at-ne1.false) _ _ c.digits-e.ensures.0 c.if-end-next.false (blank_no _ _ _ c.digits-e.ensures.0.within c.past_blanks.ensures.0 c.if-past_blanks-l.true)

pub returns : goal.returns
returns c = all_right _ _ _ _ _ c.past_blanks-a.ensures.0 c.lead_at-m.ensures.0 c.digits-d.ensures.0 c.if-next-a.false (sym c.lead_at.ensures.0 ∙ c.if-lead_at-ne1.false) _ _ c.digits-e.ensures.0 c.if-end-next.false (blank_yes _ _ _ c.digits-e.ensures.0.within c.past_blanks.ensures.0 c.if-past_blanks-l.false)
