use mathlib.Core.Path.{refl, sym, ◌∙◌, ap}
use Rattle.std.specs.Prelude.{is_none}
use Rattle.lists.proofs.Bools.{clash}
use Rattle.pdb_reader.proofs.Answers.{empty_tables, noted_same, surveyed_counts, residues_past, refused, right}
use Rattle.pdb_reader.proofs.read_pdb.Goals as goal

pub survey-v-requires : goal.survey-v-requires
survey-v-requires c = empty_tables

pub find_fault-fault-requires : goal.find_fault-fault-requires
find_fault-fault-requires c = let S = c.survey-v.ensures in
    (S.noted.known, S.fault, S.ahead_is)

pub returns-in-Some : goal.returns-in-Some
returns-in-Some c = refused _ _ _ c.in-Some.ensures.0 _ (rw c.refusal_of.ensures refl) (λ e. clash refl (sym e))

pub returns-then-c : goal.returns-then-c
returns-then-c c = let S = c.survey-v.ensures in refused _ _ _ c.in_default.ensures.0 _ refl (λ e. residues_past _ (S.noted.past c.if-c.true))

pub read_right-requires : goal.read_right-requires
read_right-requires c = let S = c.survey-v.ensures in
    let E = c.in_default.ensures.1 c.if-c.false in
    (noted_same _ _ _ _ _ _ _ _ S.noted E.0 E.1, surveyed_counts _ _ _ _ _ _ S (ap is_none (sym c.in_default.ensures.0)))

pub returns : goal.returns
returns c = right _ _ _ c.in_default.ensures.0 refl _ _ c.read_right.ensures.0 c.read_right.ensures.1
