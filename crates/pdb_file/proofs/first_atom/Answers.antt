use mathlib.Core.Path.{refl, sym, ap, ◌∙◌}
use mathlib.Core.List.{[]}
use Rattle.pdb_file.specs.Reading.{atoms}
use Rattle.pdb_file.specs.Faults.{first_atom}
use Rattle.pdb_file.proofs.Laws.{first_done, first_here, first_on, begun}
use Rattle.pdb_file.proofs.first_atom.Goals as goal

pub loop-r-init : goal.loop-r-init
loop-r-init c =
    let b = begun _ _ _ c.records-r-items.ensures c.into_iter-r-iterator.ensures.into_iter_gives in
    (tt, tt, ap (λ rs. first_atom c.args.name (atoms rs)) (sym b.all))

pub returns-in-Some-found_in : goal.returns-in-Some-found_in
returns-in-Some-found_in c =
    first_here _ _ _ _ _ _ c.loop-r.invariant.2 c.in-Some.ensures.steps.is (sym c.found_in.ensures ∙ c.in-Some-found_in.is)

pub loop-r-preserved : goal.loop-r-preserved
loop-r-preserved c =
    (tt, tt, first_on _ _ _ _ _ c.loop-r.invariant.2 c.in-Some.ensures.steps.is (sym c.found_in.ensures ∙ c.in_default.is))

pub returns : goal.returns
returns c = first_done _ _ _ [] c.loop-r.invariant.2 c.in-None.ensures.steps
