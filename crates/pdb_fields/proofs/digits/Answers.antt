use Prim.Native.Nat.{◌≤◌, ◌<◌, ◌-◌, ◌+◌}
use mathlib.Core.Path.{◌≡◌, refl, sym, ◌∙◌}
use native.Mathlib.Omega.{arith}
use lib.ListN.{length, take, drop, get_or}
use borrow.Author.Rules.{rules}
use Prim.Native.Nat.{◌^◌}
use Rattle.pdb_fields.specs.Numbers.{run, is_digit, decimal}
use Rattle.pdb_fields.proofs.Laws.{run_over, run_no, run_turn, digits_stop, digit_from, digit_to, decimal_more, grown, small}
use Rattle.pdb_fields.proofs.digits.Goals as goal

pub loop-k-init : goal.loop-k-init
loop-k-init c = (omega arith, omega arith, refl, refl, c.requires.2)

pub overflow_mul-value : goal.overflow_mul-value
overflow_mul-value c =
    let loop = c.loop-k in
    let k : loop.k ≤ 8 = omega arith in
    omega (arith, small loop.value loop.k loop.invariant.4 k)

pub overflow_sub-value : goal.overflow_sub-value
overflow_sub-value c = digit_from _ (sym c.is_digit.ensures ∙ c.if-not-is_digit.false)

pub overflow_cast-value : goal.overflow_cast-value
overflow_cast-value c =
    let d = sym c.is_digit.ensures ∙ c.if-not-is_digit.false in
    let b = get_or c.args.l.now c.loop-k.k 0 in
    omega (arith, digit_from b d, digit_to b d)

pub overflow_add-value : goal.overflow_add-value
overflow_add-value c =
    let loop = c.loop-k in
    let d = sym c.is_digit.ensures ∙ c.if-not-is_digit.false in
    let b = get_or c.args.l.now loop.k 0 in
    let k : loop.k ≤ 8 = omega arith in
    omega (arith, digit_from b d, digit_to b d, small loop.value loop.k loop.invariant.4 k)

pub loop-k-preserved : goal.loop-k-preserved
loop-k-preserved c =
    let loop = c.loop-k in
    let d = sym c.is_digit.ensures ∙ c.if-not-is_digit.false in
    let h = c.loop-k-test.true in
    let b = get_or c.args.l.now loop.k 0 in
    (omega arith, omega arith, run_turn is_digit _ _ _ loop.invariant.2 h d, loop.invariant.3 ∙ decimal_more c.args.l.now loop.k loop.value h d, grown loop.value (b - 48) loop.k loop.invariant.4 (omega (arith, digit_to b d)))

pub returns-then-not-is_digit : goal.returns-then-not-is_digit
returns-then-not-is_digit c =
    let inv = c.loop-k.invariant in
    (digits_stop _ _ _ _ _ inv.2 inv.1 inv.3 (run_no is_digit _ _ c.loop-k-test.true (sym c.is_digit.ensures ∙ c.if-not-is_digit.true)), inv.4)

pub returns : goal.returns
returns c =
    let inv = c.loop-k.invariant in
    let e : length c.args.l.now ≡ c.loop-k.k = omega arith in
    let h : length c.args.l.now ≤ c.loop-k.k = omega arith in
    rw e (digits_stop _ _ _ _ _ inv.2 inv.1 inv.3 (run_over is_digit _ _ h), inv.4)
