use mathlib.Core.Path.{sym}
use native.Mathlib.Omega.{arith}
use borrow.Author.Rules.{rules}
use Rattle.blocks.proofs.Laws.{full_block, last_block}
use Rattle.blocks.proofs.facets_in.Goals as goal

pub returns-then-left-gt1000 : goal.returns-then-left-gt1000
returns-then-left-gt1000 c = (sym (full_block c.args.t c.args.i c.if-left-gt1000.true), omega arith, omega arith)

pub returns : goal.returns
returns c = (sym (last_block c.args.t c.args.i c.if-left-gt1000.false), omega arith, omega arith)
