use Prim.Native.Nat.{◌≤◌, ◌-◌}
use mathlib.Core.Path.{◌≡◌, sym, ◌∙◌}
use native.Mathlib.Omega.{arith}
use lib.ListN.{length, take, drop}
use borrow.Author.Rules.{rules}
use Rattle.pdb_lines.specs.Lines.{lines}
use Rattle.pdb_lines.proofs.Laws.{ontos, turn, found, over}
use Rattle.pdb_lines.proofs.Search.{plain_lines}
use Rattle.pdb_lines.proofs.line_at.Goals as goal

pub past_plain-i-requires : goal.past_plain-i-requires
past_plain-i-requires c = omega arith

pub loop-i-init : goal.loop-i-init
loop-i-init c = let P = c.past_plain-i.ensures in
    (P.start, P.end, plain_lines _ _ _ P)

pub returns-then-e-gt0 : goal.returns-then-e-gt0
returns-then-e-gt0 c = record { cut = found _ _ _ c.loop-i.invariant.0 _ (sym c.ending_at-e.ensures.0) c.if-e-gt0.true c.loop-i.invariant.2; start = omega arith; end = omega arith; onward = omega arith; within = omega arith }

pub loop-i-preserved : goal.loop-i-preserved
loop-i-preserved c = let z : c.ending_at-e.result ≡ 0 = omega arith in
    (omega arith, omega arith, turn _ _ _ c.loop-i.invariant.0 c.loop-i-test.true (sym c.ending_at-e.ensures.0 ∙ z) c.loop-i.invariant.2)

pub returns : goal.returns
returns c = let e : length c.args.s.now ≡ c.loop-i.i = omega arith in
    record { cut = rw e (over _ _ _ c.requires (omega arith) c.loop-i.invariant.2); start = omega arith; end = omega arith; onward = omega arith; within = omega arith }
