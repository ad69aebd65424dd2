use borrow.Author.Rules.{rules}
use Rattle.ribbon_c.proofs.ribbon_build_share.Goals as goal

pub returns : goal.returns
returns c =
    let promise = rw (c.shares_of-mine.ensures, c.shares_of-other.ensures) at c.build_share-a.ensures in
    record { answer = _; promise = promise; words = c.built_words.ensures }
