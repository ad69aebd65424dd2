use Rattle.protein.proofs.serial.Goals as goal

pub returns : goal.returns
returns c = cc
