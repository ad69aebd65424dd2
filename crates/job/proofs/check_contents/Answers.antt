use mathlib.Core.Path.{◌∙◌}
use Rattle.job.specs.Check.{contents}
use Rattle.job.proofs.Laws.{or_first_some, or_first_none}
use Rattle.job.proofs.check_contents.Goals as goal

pub returns-in-Some : goal.returns-in-Some
unfolding contents
returns-in-Some c = or_first_some _ _ _ _ c.in-Some.ensures

pub returns-in-Some-find_kind : goal.returns-in-Some-find_kind
unfolding contents
returns-in-Some-find_kind c = or_first_some _ _ _ _ c.in-Some-find_kind.ensures ∙ or_first_none _ _ _ c.in_default.ensures

pub returns-in-Some-find_atom : goal.returns-in-Some-find_atom
unfolding contents
returns-in-Some-find_atom c =
    or_first_some _ _ _ _ c.in-Some-find_atom.ensures ∙ or_first_none _ _ _ c.in_default-find_kind.ensures ∙ or_first_none _ _ _ c.in_default.ensures

pub returns-in-Some-find_coordinate : goal.returns-in-Some-find_coordinate
unfolding contents
returns-in-Some-find_coordinate c =
    or_first_some _ _ _ _ c.in-Some-find_coordinate.ensures
    ∙ or_first_none _ _ _ c.in_default-find_atom.ensures
    ∙ or_first_none _ _ _ c.in_default-find_kind.ensures
    ∙ or_first_none _ _ _ c.in_default.ensures

pub returns : goal.returns
unfolding contents
returns c =
    or_first_none _ _ _ c.in_default-find_coordinate.ensures
    ∙ or_first_none _ _ _ c.in_default-find_atom.ensures
    ∙ or_first_none _ _ _ c.in_default-find_kind.ensures
    ∙ or_first_none _ _ _ c.in_default.ensures
