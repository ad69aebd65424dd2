use Rattle.std.proofs.Common.{◌-◌, ◌≤◌, rules}
use Rattle.report.proofs.side.Given as goal

abbrev pub invariant-loop-k : goal.invariant-loop-k
invariant-loop-k l = l.k ≤ l.n
