use Rattle.std.proofs.Common.{◌-◌, ◌≤◌, rules}
use Rattle.report.proofs.count_kind.Given as goal

abbrev pub invariant-loop-i : goal.invariant-loop-i
invariant-loop-i l = (l.i ≤ l.segments) × (l.n ≤ l.i)
