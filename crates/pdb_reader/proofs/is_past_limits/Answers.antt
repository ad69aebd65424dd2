use Rattle.pdb_reader.proofs.Answers.{past_residues, past_chains, past_segments, past_atoms}
use Rattle.pdb_reader.proofs.is_past_limits.Goals as goal

pub returns-then-c : goal.returns-then-c
returns-then-c c = λ s C. past_residues s c.args.c c.args.segments C c.if-c.true

pub returns-then-c-gt255 : goal.returns-then-c-gt255
returns-then-c-gt255 c = λ s C. past_chains s c.args.c c.args.segments C c.if-c.false c.if-c-gt255.true

pub returns-then-segments-gt65535 : goal.returns-then-segments-gt65535
returns-then-segments-gt65535 c = λ s C. past_segments s c.args.c c.args.segments C c.if-c.false c.if-c-gt255.false c.if-segments-gt65535.true

pub returns : goal.returns
returns c = λ s C. past_atoms s c.args.c c.args.segments C c.if-c.false c.if-c-gt255.false c.if-segments-gt65535.false
