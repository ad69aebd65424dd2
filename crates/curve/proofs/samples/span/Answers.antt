use Rattle.curve.specs.Samples.{span_of}
use Rattle.curve.proofs.samples.span.Goals as goal

pub returns : goal.returns
unfolding span_of
returns c = rw (c.after-p3.ensures, c.before-p0.ensures, c.get_vec-p2.ensures, c.get_vec-p1.ensures)
