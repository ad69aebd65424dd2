use native.Mathlib.Omega.{arith}
use Rattle.pdb_fields.specs.Numbers.{whole, end_whole}
use Rattle.pdb_fields.proofs.Laws.{ten_pos, no_digit, whole_no, whole_yes, blank_yes, blank_no}
use borrow.Author.Rules.{rules}
use Rattle.pdb_fields.proofs.whole_in.Goals as goal

pub digits-d-requires : goal.digits-d-requires
digits-d-requires c = (omega arith, omega arith, ten_pos _)

pub returns-then-next-a : goal.returns-then-next-a
unfolding whole
returns-then-next-a c = no_digit _ _ _ _ _ c.past_blanks-a.ensures.0 c.lead_at-m.ensures.0 c.digits-d.ensures.0 end_whole c.if-next-a.true

pub returns-then-past_blanks-l : goal.returns-then-past_blanks-l
returns-then-past_blanks-l c = whole_no _ _ _ _ _ c.past_blanks-a.ensures.0 c.lead_at-m.ensures.0 c.digits-d.ensures.0 c.if-next-a.false (blank_no _ _ _ c.digits-d.ensures.0.within c.past_blanks.ensures.0 c.if-past_blanks-l.true)

pub returns : goal.returns
returns c = whole_yes _ _ _ _ _ c.past_blanks-a.ensures.0 c.lead_at-m.ensures.0 c.digits-d.ensures.0 c.if-next-a.false (blank_yes _ _ _ c.digits-d.ensures.0.within c.past_blanks.ensures.0 c.if-past_blanks-l.false)
