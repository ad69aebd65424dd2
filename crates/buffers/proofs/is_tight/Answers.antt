use borrow.Author.Tests.{lt-ltb, le-ltb}
use Rattle.buffers.specs.Outs.{tight}
use Rattle.buffers.proofs.Laws.{short3, long3, short5, long5, same6}
use Rattle.buffers.proofs.is_tight.Goals as goal

pub returns-then-positions-c : goal.returns-then-positions-c
unfolding tight
returns-then-positions-c c = rw (short3 _ _ c.if-positions-c.true)

pub returns-then-normals-c : goal.returns-then-normals-c
unfolding tight
returns-then-normals-c c = rw (long3 _ _ c.if-positions-c.false, short3 _ _ c.if-normals-c.true)

pub returns-then-tags-c : goal.returns-then-tags-c
unfolding tight
returns-then-tags-c c = rw (long3 _ _ c.if-positions-c.false, long3 _ _ c.if-normals-c.false, lt-ltb c.args.tags c.args.c.vertices c.if-tags-c.true)

pub returns-then-triangles-c : goal.returns-then-triangles-c
unfolding tight
returns-then-triangles-c c = rw (long3 _ _ c.if-positions-c.false, long3 _ _ c.if-normals-c.false, le-ltb _ _ c.if-tags-c.false, short3 _ _ c.if-triangles-c.true)

pub returns-then-records-c : goal.returns-then-records-c
unfolding tight
returns-then-records-c c = rw (long3 _ _ c.if-positions-c.false, long3 _ _ c.if-normals-c.false, le-ltb _ _ c.if-tags-c.false, long3 _ _ c.if-triangles-c.false, short5 _ _ c.if-records-c.true)

pub returns : goal.returns
unfolding tight
returns c = rw (long3 _ _ c.if-positions-c.false, long3 _ _ c.if-normals-c.false, le-ltb _ _ c.if-tags-c.false, long3 _ _ c.if-triangles-c.false, long5 _ _ c.if-records-c.false) (same6 c.args.boxes c.args.c.tubes)
