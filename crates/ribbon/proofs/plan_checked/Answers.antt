use Rattle.std.specs.Prelude.{Ok}
use Rattle.buffers.specs.declared.Counts.{Counts}
use Prim.Native.Nat.{◌*◌}
use mathlib.Core.Bool.{true, false}
use mathlib.Core.Path.{◌≡◌, sym, ◌∙◌, ap}
use lib.ListN.{length}
use native.Mathlib.Omega.{arith}
use Rattle.promises.specs.Calls.{tubes_with, with_words}
use Rattle.room.specs.Room.{short_scratch}
use Rattle.ribbon.proofs.Laws.{kept_at_nine, swept, start_small, start_counted}
use Rattle.room.proofs.Laws.{long_words, long_floats, zeroed_words}
use Rattle.ribbon.proofs.Answers.{many, few, plan_is, plan_short, plan_many, plan_fine}
use Rattle.ribbon.proofs.plan_checked.Goals as goal

pub returns-then-is_short : goal.returns-then-is_short
returns-then-is_short c =
    let args = c.args in
    let q : short_scratch args.h (length args.words.now) (length args.floats.now) ≡ true = (sym c.is_short.ensures ∙ c.if-is_short.true) in
    (plan_short args.h (tubes_with args.b.now args.h args.q.now) args.k _ _ q, kept_at_nine args.h _ _ q)

pub count_all-sum-requires : goal.count_all-sum-requires
count_all-sum-requires c =
    let args = c.args in
    let q : short_scratch args.h (length args.words.now) (length args.floats.now) ≡ false = (sym c.is_short.ensures ∙ c.if-is_short.false) in
    (c.requires.0, long_words args.h _ _ q, c.requires.1, start_small _ args.k c.before_all.ensures, c.requires.2)

pub clear_scratch-requires : goal.clear_scratch-requires
clear_scratch-requires c =
    let args = c.args in
    let q : short_scratch args.h (length args.words.now) (length args.floats.now) ≡ false = (sym c.is_short.ensures ∙ c.if-is_short.false) in
    (c.requires.0.few_residues, omega (arith, long_words args.h _ _ q, c.count_all-sum.auto.scratch), long_floats args.h _ _ q)

pub returns-then-sum-gt1048576 : goal.returns-then-sum-gt1048576
returns-then-sum-gt1048576 c =
    let args = c.args in
    let q : short_scratch args.h (length args.words.now) (length args.floats.now) ≡ false = (sym c.is_short.ensures ∙ c.if-is_short.false) in
    (plan_many args.h (tubes_with args.b.now args.h args.q.now) args.k _ _ q (many args.k (tubes_with args.b.now args.h args.q.now) _ (start_counted args.b.now args.h args.q.now args.k _ c.before_all.ensures _ c.count_all-sum.ensures.0) c.if-sum-gt1048576.true), swept args.h _ _ _ _ q (c.clear_scratch.ensures.0 ∙ zeroed_words (8 * args.h.residues) _ _ c.count_all-sum.ensures.1) c.clear_scratch.ensures.1)

pub returns : goal.returns
returns c =
    let count-all = c.count_all-sum in
    let args = c.args in
    let q : short_scratch args.h (length args.words.now) (length args.floats.now) ≡ false = (sym c.is_short.ensures ∙ c.if-is_short.false) in
    let n = (start_counted args.b.now args.h args.q.now args.k _ c.before_all.ensures _ count-all.ensures.0) in
    (ap Ok (ap (λ (x : Counts). with_words x count-all.result.words) c.counts_of.ensures ∙ plan_is args.k (tubes_with args.b.now args.h args.q.now) _ n) ∙ plan_fine args.h (tubes_with args.b.now args.h args.q.now) args.k _ _ q (few args.k (tubes_with args.b.now args.h args.q.now) _ n c.if-sum-gt1048576.false), swept args.h _ _ _ _ q (c.clear_scratch.ensures.0 ∙ zeroed_words (8 * args.h.residues) _ _ count-all.ensures.1) c.clear_scratch.ensures.1)
