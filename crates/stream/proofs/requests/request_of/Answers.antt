use native.Mathlib.Omega.{arith}
use borrow.Author.Rules.{rules}
use Rattle.stream.proofs.requests.request_of.Goals as goal

pub returns : goal.returns
returns c = (rw (c.u32_at-10.ensures.0, c.u32_at-9.ensures.0, c.u32_at-8.ensures.0, c.u32_at-7.ensures.0, c.u32_at-6.ensures.0, c.u32_at-5.ensures.0, c.u32_at-4.ensures.0, c.u32_at-3.ensures.0, c.u32_at-2.ensures.0, c.u32_at.ensures.0), (omega arith, omega arith, omega arith, omega arith, omega arith, omega arith))
