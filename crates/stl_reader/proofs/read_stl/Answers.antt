use mathlib.Core.Path.{refl}
use Rattle.stl_reader.specs.Call.{lists}
use Rattle.stl_reader.proofs.Answers.{by_answer, small, not_stl, short_corners, short_normals, listed}
use borrow.Author.Rules.{rules}
use Rattle.stl_reader.proofs.read_stl.Goals as goal

pub returns-then-file-lt84 : goal.returns-then-file-lt84
returns-then-file-lt84 c =
    let a = c.args in
    let l = lists a.corners.now a.normals.now in
    by_answer a.file.now l _ l (small a.file.now l c.if-file-lt84.true) refl

pub returns-then-file-t : goal.returns-then-file-t
returns-then-file-t c =
    let a = c.args in
    let l = lists a.corners.now a.normals.now in
    by_answer a.file.now l _ l (not_stl a.file.now l _ c.le32_at-t.ensures.0 c.if-file-t.true) refl

pub returns-then-corners-t : goal.returns-then-corners-t
returns-then-corners-t c =
    let a = c.args in
    let l = lists a.corners.now a.normals.now in
    by_answer a.file.now l _ l (short_corners a.file.now l _ c.le32_at-t.ensures.0 c.if-file-t.false c.if-corners-t.true) refl

pub returns-then-normals-t : goal.returns-then-normals-t
returns-then-normals-t c =
    let a = c.args in
    let l = lists a.corners.now a.normals.now in
    by_answer a.file.now l _ l (short_normals a.file.now l _ c.le32_at-t.ensures.0 c.if-file-t.false c.if-corners-t.false c.if-normals-t.true) refl

pub returns : goal.returns
returns c =
    let a = c.args in
    let l = lists a.corners.now a.normals.now in
    by_answer a.file.now l _ _ (listed a.file.now l _ c.le32_at-t.ensures.0 c.if-file-t.false c.if-corners-t.false c.if-normals-t.false) (rw (c.list_facets.ensures.0, c.list_facets.ensures.1))
