use Rattle.tables.proofs.has_role.Goals as goal

pub returns : goal.returns
returns c = cc
