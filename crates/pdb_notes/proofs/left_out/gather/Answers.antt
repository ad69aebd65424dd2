use Prim.Native.Nat.{◌-◌}
use lib.ListN.{length}
use native.Mathlib.Omega.{arith}
use borrow.Author.Rules.{rules}
use Rattle.pdb_notes.proofs.Gathering.{Gathering, gathering_start, gathering_over, gathering_more}
use Rattle.pdb_notes.proofs.left_out.gather.Goals as goal

pub loop-p-init : goal.loop-p-init
loop-p-init c = gathering_start _ _ _ _ _ c.requires

pub next_line-requires : goal.next_line-requires
next_line-requires c = c.loop-p.invariant.inside

pub returns-in_default : goal.returns-in_default
returns-in_default c =
    let inv = c.loop-p.invariant in
    record {
      gains = gathering_over _ _ _ _ _ _ _ _ _ _ inv c.in_default.ensures;
      index = (inv.index, inv.grown);
    }

pub slice_bounds-name_in-count : goal.slice_bounds-name_in-count
slice_bounds-name_in-count c = c.in-Some.ensures.start

pub slice_bounds-name_in-start : goal.slice_bounds-name_in-start
slice_bounds-name_in-start c = c.in-Some.ensures.start

pub slice_bounds-name_in-end : goal.slice_bounds-name_in-end
slice_bounds-name_in-end c = c.in-Some.ensures.end

pub add-k-requires : goal.add-k-requires
add-k-requires c = c.loop-p.invariant.index

pub slice_bounds-tell_new-count : goal.slice_bounds-tell_new-count
slice_bounds-tell_new-count c = c.in-Some.ensures.start

pub slice_bounds-tell_new-start : goal.slice_bounds-tell_new-start
slice_bounds-tell_new-start c = c.in-Some.ensures.start

pub slice_bounds-tell_new-end : goal.slice_bounds-tell_new-end
slice_bounds-tell_new-end c = c.in-Some.ensures.end

pub loop-p-smaller : goal.loop-p-smaller
loop-p-smaller c = let o = c.in-Some.ensures in omega (arith, o.more, o.within)

pub loop-p-preserved : goal.loop-p-preserved
loop-p-preserved c =
    let p = c.add-k.ensures in
    gathering_more _ _ _ _ _ _ _ _ _ _ c.loop-p.invariant _ c.in-Some.ensures _ c.name_in.ensures _ _ _ p.gains p.index.0 p.index.1
