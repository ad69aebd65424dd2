use Rattle.curve.specs.Samples.{frame_of}
use Rattle.curve.proofs.samples.frame.Goals as goal

pub returns : goal.returns
unfolding frame_of
returns c = rw (c.normalised-binormal.ensures, c.cross.ensures, c.upright-guide.ensures, c.directed-direction.ensures, c.catmull_rom_tangent.ensures, c.scale-position.ensures, c.catmull_rom.ensures)
