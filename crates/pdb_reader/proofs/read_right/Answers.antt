use native.Mathlib.Omega.{arith}
use mathlib.Core.Path.{refl, sym, ◌∙◌}
use Rattle.lists.proofs.Puts.{kept}
use Rattle.pdb_job.proofs.Counts.{not_more, within_limits, size_is, marks_are}
use Rattle.pdb_reader.proofs.Answers.{limited, refuse_limits, refuse_room, accept}
use borrow.Author.Rules.{rules}
use Rattle.pdb_reader.proofs.read_right.Goals as goal

pub returns-then-is_past_limits : goal.returns-then-is_past_limits
returns-then-is_past_limits c = (refuse_limits _ c.args.out.now _ refl (sym (c.is_past_limits.ensures _ c.requires.1) ∙ c.if-is_past_limits.true), refl)

pub overflow_add-size : goal.overflow_add-size
overflow_add-size c =
    let q = c.requires.1 in
    let p = sym (c.is_past_limits.ensures _ q) ∙ c.if-is_past_limits.false in
    let m = not_more _ _ _ q (limited _ p) in
    let L = within_limits _ _ _ q m (limited _ p) in
    omega (arith, L.0)

pub overflow_mul-size : goal.overflow_mul-size
overflow_mul-size c =
    let q = c.requires.1 in
    let p = sym (c.is_past_limits.ensures _ q) ∙ c.if-is_past_limits.false in
    let m = not_more _ _ _ q (limited _ p) in
    let L = within_limits _ _ _ q m (limited _ p) in
    omega (arith, L.1)

pub overflow_add-size-2 : goal.overflow_add-size-2
overflow_add-size-2 c =
    let q = c.requires.1 in
    let p = sym (c.is_past_limits.ensures _ q) ∙ c.if-is_past_limits.false in
    let m = not_more _ _ _ q (limited _ p) in
    let L = within_limits _ _ _ q m (limited _ p) in
    omega (arith, L.0, L.1)

pub overflow_mul-size-2 : goal.overflow_mul-size-2
overflow_mul-size-2 c =
    let q = c.requires.1 in
    let p = sym (c.is_past_limits.ensures _ q) ∙ c.if-is_past_limits.false in
    let m = not_more _ _ _ q (limited _ p) in
    let L = within_limits _ _ _ q m (limited _ p) in
    omega (arith, L.2)

pub overflow_add-size-3 : goal.overflow_add-size-3
overflow_add-size-3 c =
    let q = c.requires.1 in
    let p = sym (c.is_past_limits.ensures _ q) ∙ c.if-is_past_limits.false in
    let m = not_more _ _ _ q (limited _ p) in
    let L = within_limits _ _ _ q m (limited _ p) in
    omega (arith, L.0, L.1, L.2)

pub returns-then-out-size : goal.returns-then-out-size
returns-then-out-size c =
    let q = c.requires.1 in
    let p = sym (c.is_past_limits.ensures _ q) ∙ c.if-is_past_limits.false in
    let m = not_more _ _ _ q (limited _ p) in
    (refuse_room _ c.args.out.now p _ (size_is _ _ _ q m) c.if-out-size.true, refl)

pub invariant_of-tables : goal.invariant_of-tables
invariant_of-tables c =
    let q = c.requires.1 in
    let p = sym (c.is_past_limits.ensures _ q) ∙ c.if-is_past_limits.false in
    let m = not_more _ _ _ q (limited _ p) in
    let W = c.requires.0.whole m in
    record { residues = W.residues; chains = marks_are _ _ _ q m _ W.chains }

pub write_job-requires : goal.write_job-requires
write_job-requires c =
    let q = c.requires.1 in
    let p = sym (c.is_past_limits.ensures _ q) ∙ c.if-is_past_limits.false in
    let m = not_more _ _ _ q (limited _ p) in
    let z = size_is _ _ _ q m in (q, limited _ p, omega (arith, c.if-out-size.false))

pub shape_of-out : goal.shape_of-out
shape_of-out c = kept _ _ _ c.write_job.ensures

pub returns : goal.returns
returns c =
    let q = c.requires.1 in
    let p = sym (c.is_past_limits.ensures _ q) ∙ c.if-is_past_limits.false in
    let m = not_more _ _ _ q (limited _ p) in
    (accept _ c.args.out.now p _ (size_is _ _ _ q m) c.if-out-size.false, c.write_job.ensures)
