use Rattle.curve.specs.Samples.{frame_at}
use Rattle.curve.proofs.samples.frame_at.Goals as goal

pub returns : goal.returns
unfolding frame_at
returns c = rw (c.frame.ensures, c.between.ensures, c.get_vec-2.ensures, c.get_vec.ensures, c.span.ensures, c.param_at-t.ensures, c.span_at-i.ensures.0)
