use Rattle.std.proofs.Common.{arith, refl, rules, take, ap, sym, ◌∙◌, ◌+◌, ◌*◌}
use Rattle.lists.specs.Put.{put}
use Rattle.lists.proofs.Puts.{kept, next}
use Rattle.numbers.specs.Words.{all_bytes}
use Rattle.numbers.proofs.Laws.{all_bytes_more, length_front, one_more}
use Rattle.numbers.proofs.words.put_all.Goals as goal

pub loop-x-init : goal.loop-x-init
unfolding put all_bytes
loop-x-init g c = (omega arith, omega arith, refl)

pub loop-x-preserved : goal.loop-x-preserved
loop-x-preserved g c =
    let t = g.T.Wire in
    let inv = c.loop-x.invariant in
    let items = c.args.items.now in
    let i = c.loop-x.x-index in
    let more = one_more i _ t.SIZE c.loop-x-test.true in
    let front = length_front t.bytes t.SIZE g.met.T.Wire.long items i inv.0 in (
      omega arith,
      omega (arith, more.1, c.SIZE-place.ensures, inv.1),
      next _ _ _ _ _ _ c.put.ensures inv.2 (omega (arith, inv.1, front)) ∙ ap (put _ _) (sym (all_bytes_more t.bytes items i _ c.loop-x-test.true (search rules))),
    )
