use Rattle.shape.proofs.section.leaning.Goals as goal

pub returns : goal.returns
returns c = cc
