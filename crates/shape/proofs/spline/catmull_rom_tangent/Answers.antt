use Rattle.shape.specs.Spline.{catmull_rom_tangent}
use Rattle.shape.proofs.spline.catmull_rom_tangent.Goals as goal

pub returns : goal.returns
unfolding catmull_rom_tangent
returns c = cc
