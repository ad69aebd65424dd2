use Rattle.trail.proofs.frames_at.Goals as goal

pub returns-in-Coils : goal.returns-in-Coils
returns-in-Coils c = rw c.in-Coils.is

pub returns-in-Segment : goal.returns-in-Segment
returns-in-Segment c = rw c.in-Segment.is
