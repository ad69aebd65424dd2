use native.Mathlib.Omega.{arith}
use mathlib.Core.Path.{◌∙◌, ap}
use Rattle.std.specs.Option.{option_or}
use Rattle.pdb_file.proofs.Laws.{begun, read_within}
use Rattle.pdb_survey.proofs.Walk.{surveying_start, surveying_over, surveying_more}
use Rattle.pdb_survey.proofs.survey.Goals as goal

pub loop-r-init : goal.loop-r-init
loop-r-init c =
    (tt, tt, surveying_start _ _ _ _ _ _ (begun _ _ _ c.records-r-items.ensures c.into_iter-r-iterator.ensures.into_iter_gives) c.requires)

pub overflow_add-ahead : goal.overflow_add-ahead
overflow_add-ahead c =
    let inv = c.loop-r.invariant.2 in
    omega (arith, read_within _ _ _ _ inv.text c.in-Some.ensures.steps, inv.slow_ahead, c.count_segment-ahead.ensures.1)

pub note-counts-requires : goal.note-counts-requires
note-counts-requires c =
    let inv = c.loop-r.invariant.2 in
    (inv.noted.known.index, inv.few_chains_lem, omega (arith, read_within _ _ _ _ inv.text c.in-Some.ensures.steps, inv.slow_atoms))

pub overflow_add-line : goal.overflow_add-line
overflow_add-line c =
    let inv = c.loop-r.invariant.2 in
    omega (arith, read_within _ _ _ _ inv.text c.in-Some.ensures.steps, inv.slow_line)

pub loop-r-preserved : goal.loop-r-preserved
loop-r-preserved c =
    let inv = c.loop-r.invariant.2 in (
      tt,
      tt,
      surveying_more _ _ _ _ _ _ _ _ _ _ inv _ _ c.in-Some.ensures.steps _ _ _ _ _ _ _ (c.note-counts.ensures.0 _ inv.noted)
          (c.or-fault.ensures ∙ ap (option_or c.loop-r.fault) c.own_fault.ensures) c.count_segment-ahead.ensures.0 c.count_segment-ahead.ensures.1 c.note-counts.ensures.1 c.note-counts.ensures.2,
    )

pub returns : goal.returns
returns c = surveying_over _ _ _ _ _ _ _ _ _ _ c.loop-r.invariant.2 c.in-None.ensures.steps
