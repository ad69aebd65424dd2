use native.Mathlib.Omega.{arith}
use Rattle.pdb_lines.proofs.Laws.{ending_lf, ending_not, ending_cr, ending_crlf, ending_crno}
use borrow.Author.Rules.{rules}
use Rattle.pdb_lines.proofs.ending_at.Goals as goal

pub returns-then-b-eq10 : goal.returns-then-b-eq10
returns-then-b-eq10 c = (ending_lf _ _ c.requires c.if-b-eq10.true, omega arith)

pub returns-then-b-ne13 : goal.returns-then-b-ne13
returns-then-b-ne13 c = (ending_not _ _ c.requires c.if-b-eq10.false c.if-b-ne13.true, omega arith)

pub returns-then-s-i-lt2 : goal.returns-then-s-i-lt2
returns-then-s-i-lt2 c = (ending_cr _ _ c.requires c.if-b-eq10.false c.if-b-ne13.false c.if-s-i-lt2.true, omega arith)

pub returns-then-s-i-eq10 : goal.returns-then-s-i-eq10
returns-then-s-i-eq10 c = (ending_crlf _ _ c.requires c.if-b-eq10.false c.if-b-ne13.false c.if-s-i-lt2.false c.if-s-i-eq10.true, omega arith)

pub returns : goal.returns
returns c = (ending_crno _ _ c.requires c.if-b-eq10.false c.if-b-ne13.false c.if-s-i-lt2.false c.if-s-i-eq10.false, omega arith)
