use Rattle.trail.proofs.alphas_at.Goals as goal

pub returns-in-Segment : goal.returns-in-Segment
returns-in-Segment c = rw c.in-Segment.is
