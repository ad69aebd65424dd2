use mathlib.Core.Path.{ap, ◌∙◌, sym}
use Prim.Native.Nat.{ℕ, ◌+◌, ◌-◌, ◌*◌, ◌^◌}
use native.Mathlib.Omega.{arith}
use mathlib.Core.Bool.{cond}
use Rattle.floats.proofs.Narrows.{none, small_at, high_at, over_at, shl_pos, shl_even, small_le, high_le}
use Rattle.floats.proofs.narrow.magnitude.Goals as goal

pub returns-then-e-lt872 : goal.returns-then-e-lt872
returns-then-e-lt872 c = (omega arith, λ s. none s c.args.e c.args.t c.requires.0 c.if-e-lt872.true)

pub nearest_div-requires : goal.nearest_div-requires
nearest_div-requires c =
    let e = c.args.e in
    (omega arith, shl_pos e (omega arith), shl_even e (omega arith) (omega arith))

pub returns-then-e-lt897 : goal.returns-then-e-lt897
returns-then-e-lt897 c = let a = c.args in (small_le a.e a.t c.nearest_div.result (omega arith) (omega arith) (omega arith) c.nearest_div.ensures, λ s. small_at s a.e a.t (omega arith) (omega arith) (omega arith) ∙ ap (λ (x : ℕ). cond s (2 ^ 31) 0 + x) (sym c.nearest_div.ensures))

pub overflow_add-result : goal.overflow_add-result
overflow_add-result c = omega (arith, high_le c.args.t c.nearest_div-then-e-lt1151.result (omega arith) c.nearest_div-then-e-lt1151.ensures)

pub returns-then-e-lt1151 : goal.returns-then-e-lt1151
returns-then-e-lt1151 c = let a = c.args in (omega (arith, high_le a.t c.nearest_div-then-e-lt1151.result (omega arith) c.nearest_div-then-e-lt1151.ensures), λ s. high_at s a.e a.t (omega arith) (omega arith) (omega arith) ∙ ap (λ (x : ℕ). cond s (2 ^ 31) 0 + ((a.e - 897) * 2 ^ 23 + x)) (sym c.nearest_div-then-e-lt1151.ensures))

pub returns : goal.returns
returns c = let a = c.args in (omega arith, λ s. over_at s a.e a.t (omega arith) (omega arith) (omega arith))
