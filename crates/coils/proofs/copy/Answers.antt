use mathlib.Core.Path.{◌∙◌, ap}
use native.Mathlib.Omega.{arith}
use Rattle.std.specs.Prelude.{ℕ, ◌+◌, get_or}
use Rattle.coils.proofs.copy.Goals as goal

pub returns : goal.returns
returns c =
    let a = c.args in
    let e = c.copy_within.ensures in
    record {
      size = e.len;
      entry = λ r h. e.by_index.0 (a.to + r) 0 (omega arith) (omega arith) ∙ ap (λ (k : ℕ). get_or a.t.now k 0) (omega arith);
      before = λ j h. e.by_index.1 j 0 h;
      after = λ j h. e.by_index.2 j 0 (omega arith);
    }
