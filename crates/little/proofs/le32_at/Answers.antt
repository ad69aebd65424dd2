use mathlib.Core.Path.{refl}
use native.Mathlib.Omega.{arith}
use Rattle.little.proofs.Laws.{four_bytes}
use Rattle.little.proofs.le32_at.Goals as goal

pub returns : goal.returns
returns c =
    let e = four_bytes c.args.b.now c.args.at _ _ _ _ refl refl refl refl in
    (omega (arith, c.from_le_bytes.ensures, e), omega arith)
