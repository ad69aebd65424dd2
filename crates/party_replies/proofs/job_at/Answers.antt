use Rattle.std.proofs.Common.{arith, refl, length, ◌+◌, ◌<◌, ◌≤◌}
use borrow.Author.Tests.{lt-ltb, le-ltb}
use Rattle.numbers.specs.Bytes.{u32_at}
use Rattle.party_replies.proofs.job_at.Goals as goal

pub returns-then-b-front : goal.returns-then-b-front
returns-then-b-front c =
    let a = c.args in
    let h : length a.b.now < a.at + 4 + u32_at a.b.now a.at = omega arith in
    record { place = rw (lt-ltb _ _ h); within = tt }

pub returns-then-b-front-2 : goal.returns-then-b-front-2
returns-then-b-front-2 c =
    let a = c.args in
    let h : length a.b.now < a.at + 4 + u32_at a.b.now a.at = omega (arith, c.u32_at-m.ensures.0, c.if-b-front-2.true, c.if-b-front.false) in
    record { place = rw (lt-ltb _ _ h); within = tt }

pub returns : goal.returns
returns c =
    let a = c.args in
    let h : a.at + 4 + u32_at a.b.now a.at ≤ length a.b.now = omega (arith, c.u32_at-m.ensures.0, c.if-b-front-2.false, c.if-b-front.false) in
    record { place = rw (c.u32_at-m.ensures.0, le-ltb _ _ h); within = (omega arith, omega (arith, h, c.u32_at-m.ensures.0)) }
