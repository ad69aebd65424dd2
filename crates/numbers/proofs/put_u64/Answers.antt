use mathlib.Core.Path.{refl}
use Rattle.numbers.specs.Bytes.{u64}
use Rattle.numbers.proofs.Laws.{seq, len32}
use Rattle.numbers.proofs.put_u64.Goals as goal

pub returns : goal.returns
unfolding u64
returns c = seq _ _ _ _ 4 _ _ (len32 _) refl c.put_u32.ensures c.put_u32-2.ensures
