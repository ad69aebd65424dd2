use mathlib.Core.Path.{◌≡◌, ap, ◌∙◌}
use mathlib.Core.List.{List, [], ◌∷◌}
use native.Mathlib.Omega.{arith}
use Rattle.std.specs.Prelude.{ℕ, ◌/◌, ◌%◌}
use Rattle.std.specs.Int.{w32, to_le_bytes}
use Rattle.lists.proofs.Puts.{put_part}
use Rattle.little.specs.Little.{le16, le32}
use Rattle.little.proofs.put_le32.Goals as goal

low_first : (w : ℕ) → to_le_bytes w32 w ≡ le32 w
unfolding le16 le32
low_first w = ap (λ (b : ℕ). w % 256 ∷ w / 256 % 256 ∷ w / 65536 % 256 ∷ b ∷ []) (omega arith)

pub returns : goal.returns
unfolding le16 le32
returns c = put_part c.args.out.now (le32 c.args.w) c.args.at _ (c.copy_from_slice.ensures.after ∙ c.to_le_bytes.ensures ∙ low_first c.args.w) (omega arith) c.requires
