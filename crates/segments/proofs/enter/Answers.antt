use native.Mathlib.Omega.{arith}
use mathlib.Core.Path.{refl, ◌∙◌}
use Rattle.segments.proofs.Laws.{tubes_few, tubes_hidden, first_below, first_chained, first_shown, entered_none, entered_some}
use Prim.Native.Nat.{◌+◌, ◌*◌}
use Rattle.segments.proofs.enter.Goals as goal

pub returns-then-m-lt2 : goal.returns-then-m-lt2
returns-then-m-lt2 c =
    let args = c.args in
    let p = c.mark-m.ensures in
    entered_none args.b.now args.h _ _ _ _ p.2 (λ i kind. tubes_few args.b.now args.h args.g _ _ _ c.requires.whole.2 p.2 c.requires.chains.0 _ p.0 i kind c.if-m-lt2.true)

pub bounds-scratch-first : goal.bounds-scratch-first
bounds-scratch-first c =
    let args = c.args in
    let pre = c.requires in
    let mark = c.mark-m in
    omega (arith, first_below args.b.now args.h args.g _ _ _ c.requires.whole.2 mark.ensures.2 c.requires.chains.0 _ mark.ensures.0 (5 * args.h.residues) (5 * args.h.residues + mark.result) c.first_frame-first.result refl refl c.if-m-lt2.false c.first_frame-first.ensures, mark.ensures.2.kept.size, c.requires.whole.2)

pub overflow_cast-scratch : goal.overflow_cast-scratch
overflow_cast-scratch c =
    let args = c.args in
    let pre = c.requires in
    let mark = c.mark-m in
    omega (arith, first_chained args.b.now args.h args.g _ _ _ c.requires.whole.2 mark.ensures.2 c.requires.chains.0 _ mark.ensures.0 (5 * args.h.residues) (5 * args.h.residues + mark.result) c.first_frame-first.result refl refl c.if-m-lt2.false c.first_frame-first.ensures c.requires.chains.1)

pub is_shown-requires : goal.is_shown-requires
is_shown-requires c =
    let args = c.args in
    let pre = c.requires in
    let mark = c.mark-m in
    (c.requires.whole.0, first_chained args.b.now args.h args.g _ _ _ c.requires.whole.2 mark.ensures.2 c.requires.chains.0 _ mark.ensures.0 (5 * args.h.residues) (5 * args.h.residues + mark.result) c.first_frame-first.result refl refl c.if-m-lt2.false c.first_frame-first.ensures c.requires.chains.1)

pub returns-then-not-is_shown : goal.returns-then-not-is_shown
returns-then-not-is_shown c =
    let args = c.args in
    let mark = c.mark-m in
    let pre = c.requires in
    entered_none args.b.now args.h _ _ _ _ mark.ensures.2 (λ i kind. tubes_hidden args.b.now args.h args.g _ _ _ c.requires.whole.2 mark.ensures.2 c.requires.chains.0 _ mark.ensures.0 i kind c.if-m-lt2.false (first_shown args.b.now args.h args.g _ _ _ c.requires.whole.2 mark.ensures.2 c.requires.chains.0 _ mark.ensures.0 (5 * args.h.residues) (5 * args.h.residues + mark.result) c.first_frame-first.result refl refl c.if-m-lt2.false c.first_frame-first.ensures _ c.is_shown.ensures ∙ c.if-not-is_shown.true))

pub returns : goal.returns
returns c =
    let args = c.args in
    let mark = c.mark-m in
    let pre = c.requires in
    entered_some args.b.now args.h args.g _ _ _ c.requires.whole.2 mark.ensures.2 c.requires.chains.0 _ mark.ensures.0 mark.ensures.1 c.if-m-lt2.false (first_shown args.b.now args.h args.g _ _ _ c.requires.whole.2 mark.ensures.2 c.requires.chains.0 _ mark.ensures.0 (5 * args.h.residues) (5 * args.h.residues + mark.result) c.first_frame-first.result refl refl c.if-m-lt2.false c.first_frame-first.ensures _ c.is_shown.ensures ∙ c.if-not-is_shown.false)
