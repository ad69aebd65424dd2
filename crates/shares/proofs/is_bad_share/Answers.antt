use mathlib.Core.Path.{sym, ◌∙◌}
use borrow.Author.Rules.{rules}
use Rattle.shares.specs.Shares.{bad_share}
use Rattle.shares.proofs.is_bad_share.Goals as goal

pub returns-then-is_leaving : goal.returns-then-is_leaving
unfolding bad_share
returns-then-is_leaving c = rw (sym c.is_leaving.ensures ∙ c.if-is_leaving.true)

pub returns-then-is_leaving-2 : goal.returns-then-is_leaving-2
unfolding bad_share
returns-then-is_leaving-2 c =
    rw (sym c.is_leaving.ensures ∙ c.if-is_leaving.false, sym c.is_leaving-2.ensures ∙ c.if-is_leaving-2.true)

pub returns : goal.returns
unfolding bad_share
returns c =
    rw (
      sym c.is_leaving.ensures ∙ c.if-is_leaving.false,
      sym c.is_leaving-2.ensures ∙ c.if-is_leaving-2.false,
    )
    c.is_meeting.ensures
