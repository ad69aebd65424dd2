use mathlib.Core.Path.{refl}
use Rattle.numbers.specs.Bytes.{u32}
use Rattle.numbers.proofs.Laws.{seq, len16}
use Rattle.numbers.proofs.put_u32.Goals as goal

pub returns : goal.returns
unfolding u32
returns c = seq _ _ _ _ 2 _ _ (len16 _) refl c.put_u16.ensures c.put_u16-2.ensures
