use Rattle.protein.proofs.role.Goals as goal

pub returns : goal.returns
returns c = cc
