use Rattle.std.specs.Prelude.{Ok, Err}
use Prim.Native.Nat.{◌*◌}
use mathlib.Core.Bool.{true, false}
use mathlib.Core.Path.{◌≡◌, refl, sym, ◌∙◌, ap}
use lib.ListN.{length}
use lib.Ieee.{binary32, of_bits}
use native.Mathlib.Omega.{arith}
use Rattle.promises.specs.Calls.{tubes_with}
use Rattle.room.specs.Room.{short_scratch, lent, buffers}
use Rattle.ribbon.proofs.Laws.{kept_at_nine, swept, start_small, start_counted, start_ready, start_walked}
use Rattle.room.proofs.Laws.{long_words, long_floats, zeroed_words, zeroed_past}
use Rattle.buffers.specs.Outs.{outs}
use Rattle.ribbon.proofs.Written.{filled_of}
use Rattle.ribbon.proofs.Answers.{many, few, mesh_is, room_is, tight_is, build_short, build_many, build_tight, build_mesh, room_for}
use Rattle.ribbon.proofs.build_checked.Goals as goal

pub returns-then-is_short : goal.returns-then-is_short
returns-then-is_short c =
    let args = c.args in
    let q : short_scratch args.h (length args.words.now) (length args.floats.now) ≡ true = (sym c.is_short.ensures ∙ c.if-is_short.true) in
    (build_short args.h (tubes_with args.b.now args.h args.q.now) (lent (buffers (outs args.positions.now args.normals.now args.tags.now args.triangles.now args.records.now args.boxes.now) args.words.now args.floats.now)) q, refl, kept_at_nine args.h _ _ q)

pub count_all-sum-requires : goal.count_all-sum-requires
count_all-sum-requires c =
    let args = c.args in
    let q : short_scratch args.h (length args.words.now) (length args.floats.now) ≡ false = (sym c.is_short.ensures ∙ c.if-is_short.false) in
    (c.requires.0, long_words args.h _ _ q, c.requires.1, start_small _ 0 c.before_all.ensures, c.requires.2)

pub clear_scratch-requires : goal.clear_scratch-requires
clear_scratch-requires c =
    let args = c.args in
    let q : short_scratch args.h (length args.words.now) (length args.floats.now) ≡ false = (sym c.is_short.ensures ∙ c.if-is_short.false) in
    (c.requires.0.few_residues, omega (arith, long_words args.h _ _ q, c.count_all-sum.auto.scratch), long_floats args.h _ _ q)

pub returns-then-sum-gt1048576 : goal.returns-then-sum-gt1048576
returns-then-sum-gt1048576 c =
    let args = c.args in
    let q : short_scratch args.h (length args.words.now) (length args.floats.now) ≡ false = (sym c.is_short.ensures ∙ c.if-is_short.false) in
    let n = (start_counted args.b.now args.h args.q.now 0 _ c.before_all.ensures _ c.count_all-sum.ensures.0) in
    (build_many args.h (tubes_with args.b.now args.h args.q.now) (lent (buffers (outs args.positions.now args.normals.now args.tags.now args.triangles.now args.records.now args.boxes.now) args.words.now args.floats.now)) q (many 0 (tubes_with args.b.now args.h args.q.now) _ n c.if-sum-gt1048576.true), refl, swept args.h _ _ _ _ q (c.clear_scratch.ensures.0 ∙ zeroed_words (8 * args.h.residues) _ _ c.count_all-sum.ensures.1) c.clear_scratch.ensures.1)

pub clear_scratch-requires-then-is_tight : goal.clear_scratch-requires-then-is_tight
clear_scratch-requires-then-is_tight c =
    let args = c.args in
    let q : short_scratch args.h (length args.words.now) (length args.floats.now) ≡ false = (sym c.is_short.ensures ∙ c.if-is_short.false) in
    (c.requires.0.few_residues, omega (arith, long_words args.h _ _ q, c.count_all-sum.auto.scratch), long_floats args.h _ _ q)

pub returns-then-is_tight : goal.returns-then-is_tight
returns-then-is_tight c =
    let args = c.args in
    let q : short_scratch args.h (length args.words.now) (length args.floats.now) ≡ false = (sym c.is_short.ensures ∙ c.if-is_short.false) in
    let n = (start_counted args.b.now args.h args.q.now 0 _ c.before_all.ensures _ c.count_all-sum.ensures.0) in
    (ap Err (room_is 0 (tubes_with args.b.now args.h args.q.now) _ n) ∙ build_tight args.h (tubes_with args.b.now args.h args.q.now) (lent (buffers (outs args.positions.now args.normals.now args.tags.now args.triangles.now args.records.now args.boxes.now) args.words.now args.floats.now)) q (few 0 (tubes_with args.b.now args.h args.q.now) _ n c.if-sum-gt1048576.false) (tight_is 0 (tubes_with args.b.now args.h args.q.now) _ n _ _ _ c.is_tight.ensures c.counts_of.ensures ∙ c.if-is_tight.true), refl, swept args.h _ _ _ _ q (c.clear_scratch-then-is_tight.ensures.0 ∙ zeroed_words (8 * args.h.residues) _ _ c.count_all-sum.ensures.1) c.clear_scratch-then-is_tight.ensures.1)

pub write_all-t-requires : goal.write_all-t-requires
write_all-t-requires c =
    let args = c.args in
    let q : short_scratch args.h (length args.words.now) (length args.floats.now) ≡ false = (sym c.is_short.ensures ∙ c.if-is_short.false) in
    let n = (start_counted args.b.now args.h args.q.now 0 _ c.before_all.ensures _ c.count_all-sum.ensures.0) in record { whole = (c.requires.0, omega (arith, long_words args.h _ _ q, c.count_all-sum.auto.scratch), omega (arith, long_floats args.h _ _ q), c.requires.1, start_small _ 0 c.before_all-2.ensures, c.requires.2); ready = start_ready args.b.now args.h args.q.now 0 _ c.before_all-2.ensures _ (outs args.positions.now args.normals.now args.tags.now args.triangles.now args.records.now args.boxes.now) n (record { room = room_for c.count_all-sum.result (outs args.positions.now args.normals.now args.tags.now args.triangles.now args.records.now args.boxes.now) _ _ c.is_tight.ensures c.counts_of.ensures c.if-is_tight.false; few = c.if-sum-gt1048576.false }) }

pub clear_scratch-requires-2 : goal.clear_scratch-requires-2
clear_scratch-requires-2 c =
    let args = c.args in
    let q : short_scratch args.h (length args.words.now) (length args.floats.now) ≡ false = (sym c.is_short.ensures ∙ c.if-is_short.false) in
    (c.requires.0.few_residues, omega (arith, long_words args.h _ _ q, c.count_all-sum.auto.scratch, c.write_all-t.auto.scratch), omega (arith, long_floats args.h _ _ q, c.write_all-t.auto.floats))

pub shape_of-words : goal.shape_of-words
shape_of-words c = c.clear_scratch-2.auto.words ∙ c.write_all-t.auto.scratch ∙ c.count_all-sum.auto.scratch

pub returns : goal.returns
returns c =
    let args = c.args in
    let p = c.write_all-t.ensures in
    let q : short_scratch args.h (length args.words.now) (length args.floats.now) ≡ false = (sym c.is_short.ensures ∙ c.if-is_short.false) in
    let n = (start_counted args.b.now args.h args.q.now 0 _ c.before_all.ensures _ c.count_all-sum.ensures.0) in
    let t = start_walked args.b.now args.h args.q.now 0 _ c.before_all-2.ensures _ (outs args.positions.now args.normals.now args.tags.now args.triangles.now args.records.now args.boxes.now) _ p.boxes_value in (
      ap Ok (c.counts_of-2.ensures ∙ mesh_is 0 (tubes_with args.b.now args.h args.q.now) _ t) ∙ build_mesh args.h (tubes_with args.b.now args.h args.q.now) (lent (buffers (outs args.positions.now args.normals.now args.tags.now args.triangles.now args.records.now args.boxes.now) args.words.now args.floats.now)) q (few 0 (tubes_with args.b.now args.h args.q.now) _ n c.if-sum-gt1048576.false) (tight_is 0 (tubes_with args.b.now args.h args.q.now) _ n _ _ _ c.is_tight.ensures c.counts_of.ensures ∙ c.if-is_tight.false),
      filled_of args.b.now args.h args.q.now 0 (outs args.positions.now args.normals.now args.tags.now args.triangles.now args.records.now args.boxes.now) _ _ _ c.before_all-2.ensures p.boxes_value,
      swept args.h _ _ _ _ q (c.clear_scratch-2.ensures.0 ∙ zeroed_words (8 * args.h.residues) _ _ p.kept ∙ zeroed_words (8 * args.h.residues) _ _ c.count_all-sum.ensures.1) (c.clear_scratch-2.ensures.1 ∙ zeroed_past (of_bits binary32 0) (6 * args.h.residues) (32 * args.h.residues) _ _ (omega arith) p.floats_unchanged),
    )
