use native.Mathlib.Omega.{arith}
use Rattle.pdb_survey.proofs.Tables.{mark_seen, mark_new}
use borrow.Author.Rules.{rules}
use Rattle.pdb_survey.proofs.mark.Goals as goal

pub returns-then-marks-i-eq0 : goal.returns-then-marks-i-eq0
returns-then-marks-i-eq0 c = (λ l M. mark_new _ _ l c.args.letter M (search rules) c.if-marks-i-eq0.true, omega arith)

pub returns : goal.returns
returns c = (λ l M. mark_seen _ _ l c.args.letter M (search rules) c.if-marks-i-eq0.false, omega arith)
