use Rattle.lists.proofs.Puts.{put1}
use Rattle.numbers.proofs.put_byte.Goals as goal

pub returns : goal.returns
returns c = put1 _ _ _
