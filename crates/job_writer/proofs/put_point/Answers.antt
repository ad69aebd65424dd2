use Prim.Native.Nat.{◌+◌}
use mathlib.Core.Path.{◌≡◌, refl}
use native.Mathlib.Omega.{arith}
use Rattle.job_writer.specs.Job.{point}
use Rattle.numbers.proofs.Laws.{seq, len64}
use borrow.Author.Rules.{rules}
use Rattle.job_writer.proofs.put_point.Goals as goal

pub returns : goal.returns
unfolding point
returns c =
    let a = c.args.at in
    let h : a + 16 ≡ a + 8 + 8 = omega arith in
    seq _ _ _ _ 8 _ _ (len64 _) refl c.put_u64.ensures (seq _ _ _ _ 8 _ _ (len64 _) h c.put_u64-2.ensures c.put_u64-3.ensures)
