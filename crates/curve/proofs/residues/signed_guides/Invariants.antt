use mathlib.Core.Path.{◌≡◌}
use Prim.Native.Nat.{◌+◌, ◌*◌, ◌-◌, ◌≤◌}
use lib.ListN.{take, drop}
use Rattle.lists.specs.Put.{put}
use Rattle.vectors.specs.Vec.{floats_of}
use Rattle.curve.specs.Residues.{oxygen_at, raw_at, signed_at}
use Rattle.curve.proofs.residues.signed_guides.Given as goal

abbrev pub invariant-loop-i : goal.invariant-loop-i
invariant-loop-i l = (l.i + 1 ≤ l.n) × (l.prev ≡ signed_at (raw_at (take (3 * l.n) l.initial.course) (oxygen_at l.flags (drop (3 * l.n) l.initial.course)) l.n) l.i) × (l.course ≡ put l.initial.course (3 * l.n) (floats_of (signed_at (raw_at (take (3 * l.n) l.initial.course) (oxygen_at l.flags (drop (3 * l.n) l.initial.course)) l.n)) l.i))
