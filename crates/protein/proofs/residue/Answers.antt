use Rattle.protein.proofs.residue.Goals as goal

pub returns : goal.returns
returns c = cc
