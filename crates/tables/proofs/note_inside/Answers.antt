use Prim.Native.Nat.{ℕ}
use mathlib.Core.Path.{◌≡◌, sym, subst}
use native.Mathlib.Omega.{arith}
use Rattle.lists.proofs.Bools.{clash}
use Rattle.protein.specs.Job.{job_of}
use Rattle.stretch.specs.Stretch.{In}
use Rattle.tables.proofs.Parts.{alpha_wanted, oxygen_wanted, no_alpha, no_oxygen, filling_skip, filling_none, filling_alpha, filling_oxygen}
use Rattle.tables.proofs.note_inside.Goals as goal

pub returns-then-role-eq0 : goal.returns-then-role-eq0
returns-then-role-eq0 c =
    let args = c.args in
    let pre = c.requires in
    let J = job_of args.b.now args.h in
    let role = c.role-role.ensures in
    filling_skip (job_of args.b.now args.h) args.g args.full args.residues args.seen args.alphas args.oxygens args.a _ c.requires.filling (no_alpha J args.g args.a (λ e. omega arith)) (λ _. no_oxygen J args.g args.a (λ e. omega arith))

pub returns-then-all-r : goal.returns-then-all-r
returns-then-all-r c =
    let args = c.args in
    let pre = c.requires in
    let J = job_of args.b.now args.h in
    let role = c.role-role.ensures in
    let residue = c.residue-r.ensures in
    filling_none (job_of args.b.now args.h) args.g args.full args.residues args.seen args.alphas args.oxygens args.a _ c.requires.filling c.requires.whole.4 (omega arith)

pub returns-then-role-eq1 : goal.returns-then-role-eq1
returns-then-role-eq1 c =
    let args = c.args in
    let pre = c.requires in
    let J = job_of args.b.now args.h in
    let role = c.role-role.ensures in
    let residue = c.residue-r.ensures in
    let own : In args.residues (J.residue args.a) = c.requires.a_value.1 args.a c.requires.whole.1 c.requires.a_value.0 (omega arith) in
    let here = subst (λ (k : ℕ). In args.residues k) (sym residue) own in
    let is : J.role args.a ≡ 1 = omega arith in
    filling_alpha (job_of args.b.now args.h) args.g args.full args.residues args.seen args.alphas args.oxygens args.a _ c.requires.filling _ residue here c.requires.whole.4 c.requires.whole.2 c.requires.whole.3 _ (alpha_wanted J args.g args.a is c.requires.a_value.0) (no_oxygen J args.g args.a (λ e. omega arith)) c.widened.ensures

pub returns-then-not-full : goal.returns-then-not-full
returns-then-not-full c =
    let args = c.args in
    let pre = c.requires in
    let J = job_of args.b.now args.h in
    let role = c.role-role.ensures in
    filling_skip (job_of args.b.now args.h) args.g args.full args.residues args.seen args.alphas args.oxygens args.a _ c.requires.filling (no_alpha J args.g args.a (λ e. omega arith)) (λ e. clash e c.if-not-full.true)

pub returns-then-role-ne2 : goal.returns-then-role-ne2
returns-then-role-ne2 c =
    let args = c.args in
    let pre = c.requires in
    let J = job_of args.b.now args.h in
    let role = c.role-role.ensures in
    filling_skip (job_of args.b.now args.h) args.g args.full args.residues args.seen args.alphas args.oxygens args.a _ c.requires.filling (no_alpha J args.g args.a (λ e. omega arith)) (λ _. no_oxygen J args.g args.a (λ e. omega arith))

pub returns : goal.returns
returns c =
    let args = c.args in
    let pre = c.requires in
    let J = job_of args.b.now args.h in
    let role = c.role-role.ensures in
    let residue = c.residue-r.ensures in
    let own : In args.residues (J.residue args.a) = c.requires.a_value.1 args.a c.requires.whole.1 c.requires.a_value.0 (omega arith) in
    let here = subst (λ (k : ℕ). In args.residues k) (sym residue) own in
    let is : J.role args.a ≡ 2 = omega arith in
    filling_oxygen (job_of args.b.now args.h) args.g args.full args.residues args.seen args.alphas args.oxygens args.a _ c.requires.filling _ residue here c.requires.whole.4 c.requires.whole.2 c.requires.whole.3 c.if-not-full.false (no_alpha J args.g args.a (λ e. omega arith)) (oxygen_wanted J args.g args.a is c.requires.a_value.0)
