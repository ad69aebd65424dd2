use native.Mathlib.Omega.{arith}
use Rattle.numbers.specs.Bytes.{u64_at}
use Rattle.job.proofs.Coordinate.{below_limit, above_limit, at_limit}
use Rattle.job.proofs.is_outside.Goals as goal

pub returns-then-high-lt1087373312 : goal.returns-then-high-lt1087373312
unfolding u64_at
returns-then-high-lt1087373312 c =
    let u32-at = c.u32_at-high in
    rw (← u32-at.ensures.0, ← c.u32_at-low.ensures.0) (below_limit u32-at.result c.u32_at-low.result u32-at.ensures.1 c.u32_at-low.ensures.1 c.if-high-lt1087373312.true)

pub returns-then-high-gt1087373312 : goal.returns-then-high-gt1087373312
unfolding u64_at
returns-then-high-gt1087373312 c =
    let u32-at = c.u32_at-high in
    let u32-at2 = c.u32_at-low in
    rw (← u32-at.ensures.0, ← u32-at2.ensures.0) (above_limit u32-at.result u32-at2.result u32-at.ensures.1 u32-at2.ensures.1 c.if-high-gt1087373312.true)

pub returns : goal.returns
unfolding u64_at
returns c =
    let u32-at = c.u32_at-high in
    let u32-at2 = c.u32_at-low in
    rw (← u32-at.ensures.0, ← u32-at2.ensures.0) (at_limit u32-at.result u32-at2.result u32-at.ensures.1 u32-at2.ensures.1 (omega arith))
