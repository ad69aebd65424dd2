use native.Mathlib.Omega.{arith}
use Rattle.pdb_survey.proofs.Tables.{atom_seen, atom_new}
use Rattle.pdb_survey.proofs.Walk.{noted_over, noted_full, noted_more}
use borrow.Author.Rules.{rules}
use Rattle.pdb_survey.proofs.take_in.Goals as goal

pub returns-then-c : goal.returns-then-c
returns-then-c c = (λ l N. noted_over _ _ _ _ _ l N _ c.if-c.true, c.requires.1, omega arith)

pub returns-in-Some : goal.returns-in-Some
returns-in-Some c = (
  λ l N. noted_more _ _ _ _ _ l N c.args.a c.if-c.false _ _ _ _ _ _ (λ R. atom_seen _ _ _ _ l c.args.a R _ c.in-Some.ensures.0 c.in-Some.ensures.1) (λ M. c.mark-chains.ensures.0 _ M),
  omega (arith, c.mark-chains.ensures.1, c.requires.1),
  omega arith,
)

pub returns-then-n-eq16384 : goal.returns-then-n-eq16384
returns-then-n-eq16384 c = (λ l N. noted_full _ _ _ _ _ l N c.args.a c.if-c.false c.in_default.ensures c.if-n-eq16384.true _, c.requires.1, omega arith)

pub enter-requires : goal.enter-requires
enter-requires c = (c.requires.0, omega (arith, c.if-n-eq16384.false, c.requires.0.few))

pub returns : goal.returns
returns c = (λ l N. noted_more _ _ _ _ _ l N c.args.a c.if-c.false _ _ _ _ _ _ (λ R. atom_new _ _ _ _ l c.args.a R c.in_default.ensures (omega (arith, c.if-n-eq16384.false, c.requires.0.few)) _ _ c.enter.ensures.0 c.enter.ensures.1) (λ M. c.mark-chains.ensures.0 _ M), omega (arith, c.mark-chains.ensures.1, c.requires.1), omega arith)
