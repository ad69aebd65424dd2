use mathlib.Core.Path.{refl}
use native.Mathlib.Omega.{arith}
use Rattle.coils.proofs.Laws.{lead_room, join_room, extended_is, run_first, run_last, ext_all}
use Rattle.coils.specs.Coils.{joins_in}
use Rattle.coils.proofs.extend.Goals as goal

pub put_if-a-requires : goal.put_if-a-requires
put_if-a-requires c =
    let pre = c.requires in
    let a = lead_room (joins_in c.args.t.now c.args.n) _ _ _ c.requires.p_bound.0 c.is_led-before.ensures in (omega (arith, a.0, a.1, c.requires.n_bound.1, c.requires.n_bound.2, c.requires.n_bound.3), omega (arith, c.saturating_sub.ensures, c.requires.p_bound.0, c.requires.n_bound.0))

pub overflow_add-ext : goal.overflow_add-ext
overflow_add-ext c = let a = lead_room (joins_in c.args.t.now c.args.n) _ _ _ c.requires.p_bound.0 c.is_led-before.ensures in omega (arith, a.1, c.put_if-a.ensures.0, c.requires.n_bound.0)

pub copy-requires : goal.copy-requires
copy-requires c =
    let pre = c.requires in
    let p = c.put_if-a.ensures in
    let a = lead_room (joins_in c.args.t.now c.args.n) _ _ _ c.requires.p_bound.0 c.is_led-before.ensures in (omega (arith, a.1, p.0, c.requires.n_bound.2, c.requires.n_bound.3), omega (arith, a.0, a.1, p.0, p.1.size, c.requires.n_bound.1, c.requires.n_bound.2, c.requires.n_bound.3))

pub overflow_add-m : goal.overflow_add-m
overflow_add-m c =
    let pre = c.requires in
    let a = lead_room (joins_in c.args.t.now c.args.n) _ _ _ c.requires.p_bound.0 c.is_led-before.ensures in omega (arith, a.1, c.put_if-a.ensures.0, c.requires.n_bound.0, c.requires.n_bound.3)

pub overflow_add-ext-2 : goal.overflow_add-ext-2
overflow_add-ext-2 c =
    let pre = c.requires in
    let a = lead_room (joins_in c.args.t.now c.args.n) _ _ _ c.requires.p_bound.0 c.is_led-before.ensures in omega (arith, a.1, c.put_if-a.ensures.0, c.requires.n_bound.0, c.requires.n_bound.3)

pub put_if-requires : goal.put_if-requires
put_if-requires c =
    let pre = c.requires in
    let args = c.args in
    let a = lead_room (joins_in args.t.now args.n) _ _ _ c.requires.p_bound.0 c.is_led-before.ensures in let b = join_room args.t.now args.n _ _ c.requires.p_bound.1 c.is_joined-after.ensures in (omega (arith, a.0, a.1, b.0, b.1, c.put_if-a.ensures.0, c.put_if-a.ensures.1.size, c.copy.ensures.size, c.requires.n_bound.1, c.requires.n_bound.2, c.requires.n_bound.3), omega (arith, c.requires.p_bound.1, c.requires.n_bound.0))

pub overflow_add-result : goal.overflow_add-result
overflow_add-result c =
    let args = c.args in
    let pre = c.requires in
    let a = lead_room (joins_in args.t.now args.n) _ _ _ c.requires.p_bound.0 c.is_led-before.ensures in let b = join_room args.t.now args.n _ _ c.requires.p_bound.1 c.is_joined-after.ensures in omega (arith, a.1, b.1, c.put_if-a.ensures.0, c.put_if.ensures.0, c.requires.n_bound.0, c.requires.n_bound.3)

pub returns : goal.returns
returns c =
    let args = c.args in
    let pre = c.requires in
    let is-led = c.is_led-before in
    let is-joined = c.is_joined-after in
    let put_if = c.put_if-a in
    let put-if2 = c.put_if in
    ext_all args.n args.p args.e put_if.result put-if2.result _ _ _ _ is-led.result is-joined.result _ _ _ c.requires.n_bound.1 c.requires.n_bound.2 c.requires.n_bound.3 (let a = lead_room (joins_in args.t.now args.n) _ _ _ c.requires.p_bound.0 is-led.ensures in let b = join_room args.t.now args.n _ _ c.requires.p_bound.1 is-joined.ensures in omega (arith, a.0, a.1, b.0, b.1, c.requires.n_bound.2, c.requires.n_bound.3)) put_if.ensures.0 put-if2.ensures.0 put_if.ensures.1 c.copy.ensures put-if2.ensures.1 (extended_is (joins_in args.t.now args.n) _ _ _ _ _ _ _ (run_first args.n args.p args.e args.t.now c.requires.n_bound.1 c.requires.n_bound.2 c.requires.n_bound.3) (run_last args.n args.p args.e args.t.now c.requires.n_bound.1 c.requires.n_bound.2 c.requires.n_bound.3) is-led.ensures is-joined.ensures c.saturating_sub.ensures refl)
