use Rattle.std.proofs.Common.{◌≡◌, ◌≤◌, ◌+◌, ◌*◌, length, take}
use Rattle.lists.specs.Put.{put}
use Rattle.numbers.specs.Words.{all_bytes}
use Rattle.numbers.proofs.words.put_all.Given as goal

abbrev pub invariant-loop-x : goal.invariant-loop-x
invariant-loop-x g l =
    let t = g.T.Wire in
    (l.x-index ≤ length l.items) × (l.place ≡ l.at + l.x-index * t.SIZE) × (l.out ≡ put l.initial.out l.at (all_bytes t.bytes (take l.x-index l.items)))
