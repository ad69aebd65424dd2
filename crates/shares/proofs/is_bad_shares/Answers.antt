use mathlib.Core.Path.{sym, ◌∙◌}
use borrow.Author.Rules.{rules}
use Rattle.shares.specs.Shares.{bad_shares}
use Rattle.shares.proofs.is_bad_shares.Goals as goal

pub returns-then-is_bad_share : goal.returns-then-is_bad_share
unfolding bad_shares
returns-then-is_bad_share c = rw (sym c.is_bad_share.ensures ∙ c.if-is_bad_share.true)

pub returns-then-is_bad_share-2 : goal.returns-then-is_bad_share-2
unfolding bad_shares
returns-then-is_bad_share-2 c =
    rw (
      sym c.is_bad_share.ensures ∙ c.if-is_bad_share.false,
      sym c.is_bad_share-2.ensures ∙ c.if-is_bad_share-2.true,
    )

pub returns-then-is_bad_share-3 : goal.returns-then-is_bad_share-3
unfolding bad_shares
returns-then-is_bad_share-3 c =
    rw (
      sym c.is_bad_share.ensures ∙ c.if-is_bad_share.false,
      sym c.is_bad_share-2.ensures ∙ c.if-is_bad_share-2.false,
      sym c.is_bad_share-3.ensures ∙ c.if-is_bad_share-3.true,
    )

pub returns-then-is_bad_share-4 : goal.returns-then-is_bad_share-4
unfolding bad_shares
returns-then-is_bad_share-4 c =
    rw (
      sym c.is_bad_share.ensures ∙ c.if-is_bad_share.false,
      sym c.is_bad_share-2.ensures ∙ c.if-is_bad_share-2.false,
      sym c.is_bad_share-3.ensures ∙ c.if-is_bad_share-3.false,
      sym c.is_bad_share-4.ensures ∙ c.if-is_bad_share-4.true,
    )

pub returns-then-is_bad_share-5 : goal.returns-then-is_bad_share-5
unfolding bad_shares
returns-then-is_bad_share-5 c =
    rw (
      sym c.is_bad_share.ensures ∙ c.if-is_bad_share.false,
      sym c.is_bad_share-2.ensures ∙ c.if-is_bad_share-2.false,
      sym c.is_bad_share-3.ensures ∙ c.if-is_bad_share-3.false,
      sym c.is_bad_share-4.ensures ∙ c.if-is_bad_share-4.false,
      sym c.is_bad_share-5.ensures ∙ c.if-is_bad_share-5.true,
    )

pub returns : goal.returns
unfolding bad_shares
returns c =
    rw (
      sym c.is_bad_share.ensures ∙ c.if-is_bad_share.false,
      sym c.is_bad_share-2.ensures ∙ c.if-is_bad_share-2.false,
      sym c.is_bad_share-3.ensures ∙ c.if-is_bad_share-3.false,
      sym c.is_bad_share-4.ensures ∙ c.if-is_bad_share-4.false,
      sym c.is_bad_share-5.ensures ∙ c.if-is_bad_share-5.false,
    )
    c.is_bad_share-6.ensures
