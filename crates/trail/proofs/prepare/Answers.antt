use mathlib.Core.List.{[]}
use native.Mathlib.Omega.{arith}
use Rattle.protein.specs.Job.{job_of}
use Rattle.trail.proofs.Places.{zero_at, still_zero, chains_found, fresh_is}
use Rattle.trail.proofs.prepare.Goals as goal

pub fill-requires : goal.fill-requires
fill-requires c = record { whole = (c.requires.0, omega (arith, c.requires.1, c.clear.ensures.size)); by_index = λ r l. zero_at (job_of c.args.b.now c.args.h) _ _ c.clear.ensures 0 r (omega arith) l }

pub to_chains-requires : goal.to_chains-requires
to_chains-requires c = record { whole = (c.requires.0, omega (arith, c.requires.1, c.clear.ensures.size, c.fill.ensures.size)); by_index = chains_found (job_of c.args.b.now c.args.h) _ _ c.fill.ensures }

pub fill-requires-2 : goal.fill-requires-2
fill-requires-2 c = record { whole = (c.requires.0, omega (arith, c.requires.1, c.clear.ensures.size, c.fill.ensures.size, c.to_chains.ensures.size)); by_index = still_zero (job_of c.args.b.now c.args.h) _ _ c.clear.ensures _ _ [] c.fill.ensures c.to_chains.ensures }

pub returns : goal.returns
returns c = fresh_is (job_of c.args.b.now c.args.h) _ _ c.clear.ensures _ _ _ c.fill.ensures c.to_chains.ensures c.fill-2.ensures
