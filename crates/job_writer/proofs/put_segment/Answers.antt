use Prim.Native.Nat.{◌+◌}
use mathlib.Core.Path.{◌≡◌, refl}
use native.Mathlib.Omega.{arith}
use Rattle.job_writer.specs.Job.{segment_bytes}
use Rattle.numbers.proofs.Laws.{seq, len32}
use borrow.Author.Rules.{rules}
use Rattle.job_writer.proofs.put_segment.Goals as goal

pub returns : goal.returns
unfolding segment_bytes
returns c =
    let a = c.args.at in
    let h : a + 5 ≡ a + 1 + 4 = omega arith in
    seq _ _ _ _ 1 _ _ refl refl c.put_byte.ensures (seq _ _ _ _ 4 _ _ (len32 _) h c.put_u32.ensures c.put_u32-2.ensures)
