use Rattle.shape.specs.Spline.{catmull_rom}
use Rattle.shape.proofs.spline.catmull_rom.Goals as goal

pub returns : goal.returns
unfolding catmull_rom
returns c = cc
