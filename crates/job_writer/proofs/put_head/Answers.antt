use mathlib.Core.Path.{refl}
use Rattle.job_writer.specs.Job.{head_bytes}
use Rattle.numbers.proofs.Laws.{seq, len16, len32}
use borrow.Author.Rules.{rules}
use Rattle.job_writer.proofs.put_head.Goals as goal

pub returns : goal.returns
unfolding head_bytes
returns c =
    seq _ _ _ _ 4 _ _ (len32 _) refl c.put_u32.ensures
    (seq _ _ _ _ 1 _ _ refl refl c.put_byte.ensures
    (seq _ _ _ _ 2 _ _ (len16 _) refl c.put_u16.ensures
    (seq _ _ _ _ 2 _ _ (len16 _) refl c.put_u16-2.ensures
    (seq _ _ _ _ 2 _ _ (len16 _) refl c.put_u16-3.ensures c.put_u16-4.ensures))))
