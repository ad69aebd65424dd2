use borrow.Author.Rules.{rules}
use Rattle.shares.proofs.Tests.{meets_none, meets_none_2, meets_first, meets_second}
use Rattle.shares.proofs.is_meeting.Goals as goal

pub returns-then-a-eq0 : goal.returns-then-a-eq0
returns-then-a-eq0 c = let a = c.args in meets_none a.a a.b c.if-a-eq0.true

pub returns-then-b-eq0 : goal.returns-then-b-eq0
returns-then-b-eq0 c = let a = c.args in meets_none_2 a.a a.b c.if-b-eq0.true

pub returns-then-a-b : goal.returns-then-a-b
returns-then-a-b c =
    let d = c in
    let a = c.args in
    meets_first a.a a.b c.if-a-eq0.false c.if-b-eq0.false c.if-a-b.true

pub returns : goal.returns
returns c =
    let d = c in
    let a = c.args in
    meets_second a.a a.b c.if-a-eq0.false c.if-b-eq0.false c.if-a-b.false
