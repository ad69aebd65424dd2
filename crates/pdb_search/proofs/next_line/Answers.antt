use Prim.Native.Nat.{◌≤◌, ◌-◌}
use mathlib.Core.Path.{◌≡◌, refl}
use lib.ListN.{length}
use native.Mathlib.Omega.{arith}
use borrow.Author.Rules.{rules}
use Rattle.pdb_search.specs.Kinds.{lines_from}
use Rattle.pdb_search.proofs.Laws.{search_over, search_stop, search_here, search_on}
use Rattle.pdb_search.proofs.next_line.Goals as goal

pub loop-from-init : goal.loop-from-init
loop-from-init c = (omega arith, c.requires, refl)

pub returns-then-is_over : goal.returns-then-is_over
returns-then-is_over c = search_stop _ _ _ _ _ _ _ _ c.loop-from.invariant.0 c.loop-from.invariant.2 c.line_at-l.ensures _ c.kind_of-k.ensures _ c.is_over.ensures c.if-is_over.true

pub returns-then-is_wanted : goal.returns-then-is_wanted
returns-then-is_wanted c = search_here _ _ _ _ _ _ _ _ c.loop-from.invariant.0 c.loop-from.invariant.2 c.line_at-l.ensures _ c.kind_of-k.ensures _ c.is_over.ensures c.if-is_over.false _ c.saw_model-v.ensures _ c.is_wanted.ensures c.if-is_wanted.true

pub loop-from-smaller : goal.loop-from-smaller
loop-from-smaller c = omega (arith, c.line_at-l.ensures.onward, c.line_at-l.ensures.within)

pub loop-from-preserved : goal.loop-from-preserved
loop-from-preserved c =
    let inv = c.loop-from.invariant in
    let p = c.line_at-l.ensures in
    (omega (arith, inv.0, p.onward), p.within, search_on _ _ _ _ _ _ _ _ inv.0 inv.2 p _ c.kind_of-k.ensures _ c.is_over.ensures c.if-is_over.false _ c.saw_model-v.ensures _ c.is_wanted.ensures c.if-is_wanted.false)

pub returns : goal.returns
returns c = search_over _ _ _ _ _ 0 0 _ c.loop-from.invariant.0 c.loop-from.invariant.2 c.loop-from-test.false
